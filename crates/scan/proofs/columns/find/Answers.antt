use Rattle.std.proofs.Common.{bytes_eq, rules, tests}
use Rattle.std.proofs.lemmas.Iterator.{YieldsList-from_slice}
use Rattle.std.proofs.lemmas.Iterator.Search.{position_from_yields_List}
use Rattle.scan.proofs.Finding.{found}
use Rattle.scan.proofs.columns.find.Goals as goal

pub returns : goal.returns
returns c = found _ _ _ (position_from_yields_List (λ word. bytes_eq word.now c.args.text.now) _ _ c.position.result c.position.ensures.ran (YieldsList-from_slice _ c.iter.ensures.rest) (λ x b q k. search (rules, tests)))
