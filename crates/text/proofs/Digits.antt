-- What digits say of the number that they write.
use Rattle.std.proofs.Common.{◌≡◌, ℕ, ◌+◌, ◌-◌, ◌*◌, ◌^◌, ◌<◌, ◌≤◌, List, length, get_or, take, decimal, sym, ap, ◌∙◌, subst, ⊎_elim, arith}
use Rattle.std.specs.Str.Parse.{digits_value, AllDigits}
use Rattle.std.specs.Int.{IsInRange}
use Rattle.std.specs.Char.{digit_value as digitValue}
use Rattle.std.proofs.lemmas.Str.Parse.{IsNumeralModel, numerals_by_value, tells_digits, digit_at}
use Rattle.std.proofs.lemmas.Int.Digits.{digits_more, digits_value_more}
use Rattle.std.proofs.lemmas.List.{take_all}
use Rattle.std.proofs.lemmas.Bool.{cases_order, cases_lt}
use Rattle.std.proofs.lemmas.Str.{digit_value_digit}
use Rattle.std.proofs.lemmas.Fmt.{digits_decimal, digits_value-decimal, decimal-digits_value, first_decimal, decimal_nonempty, decimal_digit}
use Rattle.text.specs.Decimal.{Writes}

pub own : IsNumeralModel (AllDigits 10) (digits_value 10)
own = numerals_by_value (AllDigits 10) tells_digits

-- what is written is digits, some, and of that value
pub digits_of : (low high : ℕ) (text : List ℕ) (n : ℕ) → high < 2 ^ 16 → Writes low high text n → AllDigits 10 text
digits_of low high text n h w = subst (AllDigits 10) (sym w.is) (digits_decimal own n (omega (arith, w.most)))

pub value_of : (low high : ℕ) (text : List ℕ) (n : ℕ) → high < 2 ^ 16 → Writes low high text n → digits_value 10 text ≡ n
value_of low high text n h w = ap (digits_value 10) w.is ∙ digits_value-decimal own n (omega (arith, w.most))

-- the digits ds came, and v is their value, or both are above high
pub record Sofar (high : ℕ) (ds : List ℕ) (v : ℕ) : Type 0 where
  pub digits : AllDigits 10 ds
  pub small : v ≤ high → digits_value 10 ds ≡ v
  pub large : high < v → high < digits_value 10 ds
  pub fits : v ≤ high * 10 + 9

module _ (low high : ℕ) (text : List ℕ) (h : high < 2 ^ 16) where
  -- each byte that is written is a digit
  pub byte_of : (n : ℕ) → Writes low high text n → (i : ℕ) → i < length text → IsInRange 48 57 (get_or text i 0)
  byte_of n w i l = digit_at text i (digits_of low high text n h w) l

  pub some_of : (n : ℕ) → Writes low high text n → 0 < length text
  some_of n w = subst (λ t. 0 < length t) (sym w.is) (decimal_nonempty n (omega (arith, w.most)))

  -- a zero in front stands alone
  pub zero_alone : (n : ℕ) → Writes low high text n → get_or text 0 0 ≡ 48 → length text ≡ 1
  zero_alone n w z =
      ⊎_elim
      (λ none. ap length (w.is ∙ ap decimal none ∙ decimal_digit 0 (omega arith)))
      (λ some. absurd (⊎_elim
      (λ lt. omega arith)
      (λ lt. omega (arith, z, ap (λ t. get_or t 0 0) w.is, first_decimal n lt (omega (arith, w.most)))) some))
      (cases_order n 0)

  -- the digits so far, which are all
  pub value_small : (v i : ℕ) → length text ≤ i → Sofar high (take i text) v → (n : ℕ) → Writes low high text n → v ≡ n
  value_small v i e s n w =
      let all = take_all i text e in
      let is = ap (digits_value 10) all ∙ value_of low high text n h w in
      ⊎_elim
      (λ more. absurd (omega (arith, s.large more, w.most)))
      (λ less. sym (s.small less) ∙ is)
      (cases_lt high v)

  pub done : (v i : ℕ) → length text ≤ i → Sofar high (take i text) v → 0 < length text → (get_or text 0 0 ≡ 48 → length text ≡ 1) → low ≤ v → v ≤ high → Writes low high text v
  done v i e s some zero l m =
      let all = take_all i text e in
      let ds : AllDigits 10 text = subst (AllDigits 10) all s.digits in
      let is : digits_value 10 text ≡ v = sym (ap (digits_value 10) all) ∙ s.small m in
      record { is = sym (decimal-digits_value own text ds some zero (omega arith)) ∙ ap decimal is; least = l; most = m }

digit_value : (c : ℕ) → 48 ≤ c → c ≤ 57 → digitValue c ≡ c - 48
digit_value c l m = omega (arith, digit_value_digit c (l, m))

module _ (high : ℕ) (text : List ℕ) (i v : ℕ) (lt : i < length text) (s : Sofar high (take i text) v) (l : 48 ≤ get_or text i 0) (m : get_or text i 0 ≤ 57) where
  more_digits : AllDigits 10 (take (i + 1) text)
  more_digits = digits_more 10 text i lt s.digits (subst (λ d. d < 10) (sym (digit_value _ l m)) (omega arith))

  more_value : digits_value 10 (take (i + 1) text) ≡ digits_value 10 (take i text) * 10 + (get_or text i 0 - 48)
  more_value = digits_value_more 10 text i lt ∙ ap (λ d. digits_value 10 (take i text) * 10 + d) (digit_value _ l m)

  pub one_more : v ≤ high → Sofar high (take (i + 1) text) (v * 10 + (get_or text i 0 - 48))
  one_more le =
      let e : digits_value 10 (take (i + 1) text) ≡ v * 10 + (get_or text i 0 - 48) = more_value ∙ ap (λ x. x * 10 + (get_or text i 0 - 48)) (s.small le) in
      record { digits = more_digits; small = λ _. e; large = λ k. omega arith; fits = omega arith }

  pub past : high < v → Sofar high (take (i + 1) text) v
  past gt = record { digits = more_digits; small = λ le. absurd (omega arith); large = λ k. omega (arith, more_value, s.large gt); fits = s.fits }
