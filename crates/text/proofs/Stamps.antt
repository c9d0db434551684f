-- One text written after another.
use Rattle.std.proofs.Common.{◌≡◌, ℕ, suc, ◌+◌, ◌^◌, ◌<◌, ◌≤◌, List, [], ◌∷◌, ◌++◌, length, take, drop, set, sym, ap, ◌∙◌, append_assoc, add-zero, add_assoc, zero-add, arith}
use Rattle.std.proofs.lemmas.List.{length-append, length-set, take_more_set, drop-set-lt, take-append-drop}
use Rattle.text.specs.declared.output.Output.{Output}
use Rattle.text.specs.Output.{stamped, Puts, Appends}

pub stamped_on : (old : List ℕ) (at : ℕ) (s t : List ℕ) → stamped (stamped old at s) (at + length s) t ≡ stamped old at (s ++ t)
stamped_on old at [] t = ap (λ k. stamped old k t) (add-zero at)
stamped_on old at (b ∷ s) t =
    let e : at + suc (length s) ≡ (at + 1) + length s = omega arith in
    ap (λ k. stamped (stamped (set old at b) (at + 1) s) k t) e ∙ stamped_on (set old at b) (at + 1) s t

-- A call that writes t where the last one ended: s and then t were written.
pub then : {old mid new : List ℕ} {at end last : ℕ} {s t : List ℕ} → Puts old at s mid end → Puts mid end t new last → Puts old at (s ++ t) new last
then {old} {mid} {new} {at} {end} {last} {s} {t} v w =
    let n = length-append s t in
    record {
      place = λ h. let a = v.place (omega arith) in w.place (omega arith) ∙ ap (λ k. k + length t) a ∙ add_assoc at (length s) (length t) ∙ ap (λ k. at + k) (sym n);
      after = λ h.
          let a = v.place (omega arith) in
          w.after (omega arith) ∙ ap (λ x. stamped x end t) (v.after (omega arith)) ∙ ap (λ k. stamped (stamped old at s) k t) a ∙ stamped_on old at s t;
    }

-- Where the text fits, it stands at its place, and all else is as it was.
pub stamped_is : (old : List ℕ) (at : ℕ) (s : List ℕ) → at + length s ≤ length old → stamped old at s ≡ take at old ++ (s ++ drop (at + length s) old)
stamped_is old at [] h = sym (take-append-drop at old) ∙ ap (λ k. take at old ++ drop k old) (sym (add-zero at))
stamped_is old at (b ∷ s) h =
    let in' : at < length old = omega arith in
    let e : (at + 1) + length s ≡ at + suc (length s) = omega arith in
    stamped_is (set old at b) (at + 1) s (omega (arith, length-set old at b))
    ∙ ap (λ t. t ++ (s ++ drop ((at + 1) + length s) (set old at b))) (take_more_set old at b in')
    ∙ append_assoc (take at old) (b ∷ []) (s ++ drop ((at + 1) + length s) (set old at b))
    ∙ ap (λ t. take at old ++ (b ∷ (s ++ t))) (drop-set-lt ((at + 1) + length s) old at b (omega arith) ∙ ap (λ k. drop k old) e)

pub at_front : (old s new : List ℕ) (end : ℕ) → length s ≤ length old → length s < 2 ^ 64 → Puts old 0 s new end → (end ≡ length s) × (new ≡ s ++ drop (length s) old)
at_front old s new end h small w =
    let z = zero-add (length s) in
    (w.place (omega arith) ∙ z, w.after (omega arith) ∙ stamped_is old 0 s (omega arith) ∙ ap (λ k. s ++ drop k old) z)

-- one text written to an output after another
pub both_written : {o m n : Output} {s t : List ℕ} → Appends o s m → Appends m t n → Appends o (s ++ t) n
both_written v w = record { puts = then v.puts w.puts; same = w.same ∙ v.same }
