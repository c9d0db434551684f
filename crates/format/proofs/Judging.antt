-- The first check of a line that fails.
use Rattle.std.proofs.Common.{◌≡◌, ℕ, ◌+◌, ◌<◌, ◌≤◌, List, length, ap, subst, inl, inr, arith}
use Rattle.fault.specs.Checks.{Passes, Fails}
use Rattle.fault.proofs.Ordered.{fails_later}
use Rattle.text.specs.Lines.{HasFields}
use Rattle.mesh.specs.declared.link.Link.{Link}
use Rattle.mesh.specs.declared.link.LinkFault.{LinkFault}
use Rattle.mesh.specs.Rules.{EndsDiffer, Joins}
use Rattle.mesh.specs.Checks.{link_checks}
use Rattle.vocab.specs.declared.kinds.Setting.{Setting}
use Rattle.vocab.specs.declared.faults.LineFault.TheVariants.{BadField, BadLink}
use Rattle.format.specs.Columns.{Order}
use Rattle.format.specs.Tables.{setting_takes, link_takes}
use Rattle.format.specs.Verdict.{field_checks, setting_checks, link_line_checks, place_of, SettingLine, LinkLine}
use Rattle.format.proofs.Unique.{setting_same, link_same}

-- The root is not below nodes: every field is taken, and the only settings that the line writes break the rule.
pub root_fails : (o line : List ℕ) (h : Setting) (i : ℕ) → Order 5 o → HasFields line 5 → Passes (field_checks setting_takes line 0 o) → SettingLine o line h → h.nodes ≤ h.root → i ≡ place_of 1 o → Fails (setting_checks o line) (BadField (i + 1))
root_fails o line h i q c p w b e =
    inr (
      c,
      fails_later (field_checks setting_takes line 0 o) _ _ p
          (inl (λ (k, v, l). let s = setting_same o line k h q v w in omega (arith, ap (λ x. x.root) s, ap (λ x. x.nodes) s), ap (λ n. BadField (n + 1)) e)),
    )

-- A link that the mesh refuses: it had room and the numbers are in range, so the ends or the pair are at fault.
pub link_fails : (o : List ℕ) (nodes : ℕ) (ls : List Link) (line : List ℕ) (l : Link) (e : LinkFault) → Order 4 o → nodes ≤ 64 → HasFields line 4 → length ls < 512 → Passes (field_checks (link_takes nodes) line 0 o) → LinkLine o nodes line l → Fails (link_checks nodes ls l) e → Fails (link_line_checks o nodes ls line) (BadLink e)
link_fails o nodes ls line l e q few c room p w (inl full) = absurd (full.0 room)
link_fails o nodes ls line l e q few c room p w (inr (_, inl out)) = absurd (out.0 w.range)
link_fails o nodes ls line l e q few c room p w (inr (_, inr (_, inl same))) =
    inr (
      c,
      inr (
        room,
        fails_later (field_checks (link_takes nodes) line 0 o) _ _ p
            (inl (λ (k, v, d). same.0 (subst EndsDiffer (link_same o nodes line k l q few v w) d), ap (λ x. BadLink x) same.1)),
      ),
    )
link_fails o nodes ls line l e q few c room p w (inr (_, inr (_, inr (d, inl pair)))) =
    inr (
      c,
      inr (
        room,
        fails_later (field_checks (link_takes nodes) line 0 o) _ _ p
            (inr ((l, w, d), inl (λ (k, v, f). pair.0 (subst (λ x. Joins ls x.from x.to → ⊥) (link_same o nodes line k l q few v w) f), ap (λ x. BadLink x) pair.1))),
      ),
    )
link_fails o nodes ls line l e q few c room p w (inr (_, inr (_, inr (_, inr (_, f))))) = absurd f
