use Rattle.std.proofs.Common.{◌≡◌, ◌≢◌, ℕ, ◌<◌, List, length, Contains, Option, Some, None, MatchResult, Bor, rules, tests}
use Rattle.std.specs.Prelude.{MatchOption}
use Rattle.std.specs.List.{AllWithin, HoldsAt}
use Rattle.std.specs.Option.{ok_or, option_copied}
use Rattle.std.proofs.lemmas.Iterator.{YieldsList-from_slice, first_from_find}
use Rattle.std.proofs.lemmas.List.Elements.{All-from_all_within, All-contains}
use Rattle.text.proofs.word.word_of.Goals as goal

-- What a search among all values found, as a result: a value that is meant, or that none is.
found : {A E : Type 0} (Yes No : A → Type 0) (vs : List A) (o : Option (Bor A)) (e : E)
    → MatchOption o (AllWithin No vs 0 (length vs)) (λ x. Yes x.now × (i : ℕ) × (i < length vs) × HoldsAt (λ v. v ≡ x.now) vs i × AllWithin No vs 0 i) → ((v : A) → Contains vs v)
    → MatchResult (ok_or (option_copied o) e) Yes (λ _. ((v : A) → No v))
found Yes No vs None e h all = λ v. All-contains No vs v (All-from_all_within No vs h) (all v)
found Yes No vs (Some x) e h all = h.0

pub returns : goal.returns
returns g c =
    let first = first_from_find _ _ c.find.result (λ v. c.args.text.now ≡ g.W.Word.word v) (λ v. c.args.text.now ≢ g.W.Word.word v) c.find.ensures.ran (YieldsList-from_slice _ c.iter.ensures.rest) (λ x q k. search (rules, tests)) (λ x q k. search (rules, tests)) in
    rw (c.ok_or.ensures.value, c.copied.ensures) (found (λ v. c.args.text.now ≡ g.W.Word.word v) (λ v. c.args.text.now ≢ g.W.Word.word v) _ c.find.result _ first c.all.ensures)
