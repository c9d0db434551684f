-- What is written of a session is short, and reads back.
use Rattle.std.proofs.Common.{ℕ, zero, suc, ◌+◌, ◌/◌, ◌%◌, ◌^◌, ◌<◌, ◌≤◌, true, false, cond, eqb, List, [], ◌∷◌, length, Ok, Err, vec_items, codes, decimal, Result, refl, arith}
use Rattle.std.proofs.lemmas.List.{length-append}
use Rattle.std.specs.Fmt.{digits, digits_onto, digit_glyph}
use Rattle.std.proofs.lemmas.List.Elements.{All-from_get_or, recursion_from_All}
use Rattle.fault.specs.Layers.{layer_word}
use Rattle.fault.specs.declared.Layer.TheVariants.{Reader}
use Rattle.mesh.specs.declared.link.Link.{Link}
use Rattle.mesh.specs.Rules.{InRange, EndsDiffer}
use Rattle.vocab.specs.declared.kinds.Action.TheVariants.{Deliver}
use Rattle.vocab.specs.declared.faults.ReadFault.{ReadFault}
use Rattle.vocab.specs.Faults.{fault_number, fault_line, fault_field}
use Rattle.session.specs.declared.session.Session.{Session}
use Rattle.format.specs.Content.{Kept, standard}
use Rattle.format.specs.Verdict.{Judged, accepted}
use Rattle.format.proofs.Lengths.{five, four, two}
use Rattle.format.proofs.Single.{judged}
use Rattle.session.specs.Seen.{content, judgement}
use Rattle.standard.specs.Texts.{line}
use Rattle.standard.specs.Report.{fault_text, report_text}
use Rattle.text.specs.Lines.{spaced}

-- a number's text is short, so that of a fault is
length_spelled : (k n : ℕ) (acc : List ℕ) → length (digits_onto k 10 false n acc) ≤ k + length acc
length_spelled zero n acc = omega arith
length_spelled (suc k) n acc =
    let acc' = digit_glyph false (n % 10) ∷ acc in
    elim (eqb (n / 10) 0) as (λ b. length (cond b acc' (digits_onto k 10 false (n / 10) acc')) ≤ suc k + length acc) [
      | true ↦ omega arith
      | false ↦ let h = length_spelled k (n / 10) acc' in omega arith
    ]

length_decimal : (n : ℕ) → length (decimal n) ≤ 64
unfolding digits
length_decimal n = length_spelled 64 n []

pub fault_short : (f : ReadFault) → length (fault_text f) < 2 ^ 64
fault_short f =
    let a = decimal (fault_number f) in
    let b = layer_word Reader in
    let c = decimal (fault_line f) in
    let d = decimal (fault_field f) in
    omega (arith, length-append (line (codes "fault" ∷ codes "layer" ∷ codes "line" ∷ codes "field" ∷ [])) (line (a ∷ b ∷ c ∷ d ∷ [])), length-append (spaced (a ∷ b ∷ c ∷ d ∷ [])) (10 ∷ []), length-append a (32 ∷ spaced (b ∷ c ∷ d ∷ [])), length-append b (32 ∷ spaced (c ∷ d ∷ [])), length-append c (32 ∷ d), length_decimal (fault_number f), length_decimal (fault_line f), length_decimal (fault_field f))

-- A session keeps the rules, so its text in the standard order is accepted as the writing of that session.
pub kept : (s : Session) → Kept (content s)
kept s =
    let m = s.mesh in
    let nowhere : Link = record { from = 0; to = 0; cost = 0; width = 0 } in
    record {
      setting = record { range = record { some = omega (arith, m.rooted); few = m.many; small = omega (arith, m.rooted, m.many) }; rooted = m.rooted };
      links = record {
        few = omega (arith, m.few, m.links.ok.0);
        each = recursion_from_All _ _ (All-from_get_or (λ l. InRange m.nodes l × EndsDiffer l) (vec_items m.links) nowhere (λ i l. ((m.ends i nowhere l, m.costs i nowhere l, m.widths i nowhere l), m.apart i nowhere l)));
        once = m.once;
      };
      steps = recursion_from_All _ _ (All-from_get_or (λ t. t.pick ≤ 65535) (vec_items s.steps) (record { action = Deliver; pick = 0 }) (λ i l. s.picks i _ l));
    }

pub reads_back : (s : Session) → Judged (standard (content s)) (accepted (content s))
reads_back s = judged (standard (content s)) (accepted (content s)) (_, _, _, s.short, five, four, two, kept s, refl)

-- the text of an answer is short
pub report_short : (r : Result Session ReadFault) → length (report_text (judgement r)) < 2 ^ 64
report_short (Ok s) = omega (arith, s.short)
report_short (Err f) = fault_short f
