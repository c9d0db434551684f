-- A file that was read from a source, up to one byte more than a file may have.
use Rattle.std.proofs.Common.{◌≡◌, ℕ, ◌<◌, List, length, take, Some, None, Option, Result, sym, ap, ◌∙◌, subst, inl, inr, arith, refl}
use Rattle.std.specs.Prelude.{IfSome, option_map}
use Rattle.std.proofs.lemmas.List.{take_all, length-take-le}
use Rattle.std.proofs.lemmas.Bool.{cases_lt}
use Rattle.session.specs.declared.session.Session.{Session}
use Rattle.vocab.specs.declared.faults.ReadFault.{ReadFault}
use Rattle.vocab.specs.declared.faults.ReadFault.TheVariants.{TooLong}
use Rattle.format.specs.Verdict.{Judgement, refused, Judged}
use Rattle.format.proofs.Single.{judged}
use Rattle.session.specs.Seen.{judgement}
use Rattle.standard.specs.Report.{report_text, Reported}

-- Up to n bytes were read, and n is more than a file may have. What is printed of them is what is printed of the source: if it
-- has no more bytes, they are its bytes. Otherwise both are too long, and no other judgement holds of either.
module _ (n : ℕ) (more : 65536 < n) where
  of_bytes : (bytes read : List ℕ) (j : Judgement) (text : List ℕ) → read ≡ take n bytes → Judged read j → text ≡ report_text j → Reported bytes text
  of_bytes bytes read j text is w e = elim (cases_lt n (length bytes)) [
    | inl long ↦ (let over : 65536 < length read = omega (arith, more, ap length is, length-take-le n bytes (omega (arith, long))) in
        (refused TooLong, judged bytes (refused TooLong) (inl (omega (arith, more, long), refl)), e ∙ ap report_text (sym (w.only (refused TooLong) (inl (over, refl))))))
    | inr all ↦ (j, subst (λ b. Judged b j) (is ∙ take_all n bytes all) w, e)
  ]

  pub reported : (o : Option (List ℕ)) (read : List ℕ) (a : Result Session ReadFault) (text : List ℕ) → IfSome (option_map (take n) o) (λ xs. read ≡ xs) → Judged read (judgement a) → text ≡ report_text (judgement a) → IfSome o (λ bytes. Reported bytes text)
  reported None read a text is w e = tt
  reported (Some bytes) read a text is w e = of_bytes bytes read (judgement a) text is w e
