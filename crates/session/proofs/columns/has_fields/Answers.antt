use Rattle.std.proofs.Common.{length, sym, refl, ap, ◌∙◌}
use Rattle.text.specs.FieldsOnce.{fields_same}
use Rattle.session.proofs.columns.has_fields.Goals as goal

pub returns-else-line-n : goal.returns-else-line-n
returns-else-line-n c = (
  λ (fs, (v, e)). let h = c.args.line.cut in c.if-line-n.false (sym h.1.1 ∙ ap length (fields_same c.args.line.text.now h.0 fs h.1.0 v) ∙ e),
  refl,
)
