use Rattle.std.proofs.Common.{arith, rules, tests, ◌≡◌, ◌++◌, take, subst}
use Rattle.format.specs.Verdict.{Judged}
use Rattle.session.specs.Seen.{judgement}
use Rattle.standard.specs.Report.{report_text}
use Rattle.std.specs.Prelude.{IfSome, option_map}
use Rattle.standard.proofs.Sources.{reported}
use Rattle.standard.proofs.source.answered.Goals as goal

pub returns : goal.returns
returns g c =
    let read : IfSome (option_map (take c.take.result.limit) (g.R.Read.remaining c.take.result.inner)) (λ xs. c.read_to_end.new.buf.items ≡ c.new-bytes.result.items ++ xs) = c.in_ok-read_to_end.ensures.bytes in
    let judged = subst (λ b. Judged b (judgement c.read-answer.result)) c.deref.ensures.value c.read-answer.ensures.judged in
    let told : c.in_ok-text.text.items ≡ report_text (judgement c.read-answer.result) = search (rules, tests) in
    record {
      file = (c.read_to_end.new.buf.items, (judgement c.read-answer.result, judged, told));
      source = reported c.take.result.limit (omega (arith, c.take.ensures.limit)) (g.R.Read.remaining c.args.source) c.read_to_end.new.buf.items c.read-answer.result c.in_ok-text.text.items (rw (c.take.ensures.inner, c.new-bytes.ensures.items) at read) judged told;
    }
