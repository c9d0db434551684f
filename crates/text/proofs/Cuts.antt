-- A line and its fields.
use Rattle.std.proofs.Common.{◌≡◌, ℕ, ◌+◌, ◌-◌, ◌<◌, ◌≤◌, ◌⊎◌, List, [], ◌∷◌, ◌++◌, length, get_or, take, drop, sym, refl, ap, ◌∙◌, subst, inl, inr, append_assoc, add-zero, arith}
use Rattle.std.specs.List.{AllByRecursion}
use Rattle.text.proofs.Recursion.{pushed}
use Rattle.std.proofs.lemmas.List.{length_push, length-append, take-append-drop, take_at, get_or-drop, length-drop, drop_more, take_rest}
use Rattle.text.specs.Lines.{Mark, Field, Fields, Parted, spaced}
use Rattle.text.specs.FieldsOnce.{same_cut, no_stop, no_space}

-- each of these fields, with the space after it
abbrev pub led : List (List ℕ) → List ℕ
led [] = []
led (f ∷ fs) = f ++ (32 ∷ led fs)

-- the text begins with a line of fields
abbrev pub Lined : List ℕ → Type 0
Lined text = (line : List ℕ) × (after : List ℕ) × (fs : List (List ℕ)) × (text ≡ line ++ 10 ∷ after) × Fields line fs

-- fs came, each with a space, and rest is left; if the text begins with a line of fields, so does the rest
pub record Sofar (text : List ℕ) (fs : List (List ℕ)) (rest : List ℕ) : Type 0 where
  pub is : text ≡ led fs ++ rest
  pub each : AllByRecursion Field fs
  pub left : Lined text → Lined rest

no_feed : Mark 10 → ⊥
no_feed m = omega (arith, m.0)

-- Where the text begins with a line of fields, what stops its first field is a line feed or a space, and after a space
-- the line goes on with fields.
stops : (rest f : List ℕ) (b : ℕ) (more : List ℕ) → rest ≡ f ++ (b ∷ more) → AllByRecursion Mark f → (Mark b → ⊥) → Lined rest → (b ≡ 10) ⊎ ((b ≡ 32) × Lined more)
stops rest f b more e m p (line, after, [], is, w) = absurd (omega (arith, w.some))
stops rest f b more e m p (line, after, g ∷ [], is, w) =
    inl (same_cut Mark f g b 10 more after m w.each.0.1 p no_feed (sym e ∙ is ∙ ap (λ t. t ++ 10 ∷ after) w.is)).1
stops rest f b more e m p (line, after, g ∷ h ∷ gs, is, w) =
    let r = same_cut Mark f g b 32 more (spaced (h ∷ gs) ++ 10 ∷ after) m w.each.0.1 p no_space (sym e ∙ is ∙ ap (λ t. t ++ 10 ∷ after) w.is ∙ append_assoc g (32 ∷ spaced (h ∷ gs)) (10 ∷ after)) in
    inr (r.1, (spaced (h ∷ gs), after, h ∷ gs, r.2, record { is = refl; each = w.each.1; some = omega arith }))

first_mark : (g xs : List ℕ) → Field g → (0 < length (g ++ xs)) × Mark (get_or (g ++ xs) 0 0)
first_mark [] xs w = absurd (omega (arith, w.0))
first_mark (b ∷ g) xs w = (omega arith, w.1.0)

-- a line of fields begins with a byte that a field may hold
begins : (rest : List ℕ) → Lined rest → (0 < length rest) × Mark (get_or rest 0 0)
begins rest (line, after, [], is, w) = absurd (omega (arith, w.some))
begins rest (line, after, g ∷ [], is, w) =
    let e : rest ≡ g ++ 10 ∷ after = is ∙ ap (λ t. t ++ 10 ∷ after) w.is in
    subst (λ t. (0 < length t) × Mark (get_or t 0 0)) (sym e) (first_mark g (10 ∷ after) w.each.0)
begins rest (line, after, g ∷ h ∷ gs, is, w) =
    let e : rest ≡ g ++ (32 ∷ spaced (h ∷ gs) ++ 10 ∷ after) = is ∙ ap (λ t. t ++ 10 ∷ after) w.is ∙ append_assoc g (32 ∷ spaced (h ∷ gs)) (10 ∷ after) in
    subst (λ t. (0 < length t) × Mark (get_or t 0 0)) (sym e) (first_mark g (32 ∷ spaced (h ∷ gs) ++ 10 ∷ after) w.each.0)

pub no_line : (rest : List ℕ) → (0 < length rest → Mark (get_or rest 0 0) → ⊥) → Lined rest → ⊥
no_line rest p l = let b = begins rest l in p b.0 b.1

pub endless : (rest : List ℕ) → AllByRecursion Mark rest → Lined rest → ⊥
endless rest m (line, after, fs, is, w) = no_stop Mark line rest 10 after m no_feed (sym is)

pub other_stop : (rest f : List ℕ) (b : ℕ) (more : List ℕ) → rest ≡ f ++ (b ∷ more) → AllByRecursion Mark f → (Mark b → ⊥) → (b ≡ 10 → ⊥) → (b ≡ 32 → ⊥) → Lined rest → ⊥
other_stop rest f b more e m p q r l = elim (stops rest f b more e m p l) [ inl x ↦ q x | inr x ↦ r x.0 ]

spaced_led : (fs : List (List ℕ)) (f : List ℕ) → led fs ++ f ≡ spaced (fs ++ f ∷ [])
spaced_led [] f = refl
spaced_led (g ∷ []) f = append_assoc g (32 ∷ []) f
spaced_led (g ∷ h ∷ fs) f = append_assoc g (32 ∷ led (h ∷ fs)) f ∙ ap (λ t. g ++ (32 ∷ t)) (spaced_led (h ∷ fs) f)

led_push : (fs : List (List ℕ)) (f more : List ℕ) → led fs ++ (f ++ (32 ∷ more)) ≡ led (fs ++ f ∷ []) ++ more
led_push [] f more = sym (append_assoc f (32 ∷ []) more)
led_push (g ∷ fs) f more = append_assoc g (32 ∷ led fs) (f ++ (32 ∷ more)) ∙ ap (λ t. g ++ (32 ∷ t)) (led_push fs f more) ∙ sym (append_assoc g (32 ∷ led (fs ++ f ∷ [])) more)

-- one field more, and a space
pub one_more : (text : List ℕ) (fs : List (List ℕ)) (rest f more : List ℕ) → Sofar text fs rest → Field f → rest ≡ f ++ (32 ∷ more) → Sofar text (fs ++ f ∷ []) more
one_more text fs rest f more s w e = record {
  is = s.is ∙ ap (λ t. led fs ++ t) e ∙ led_push fs f more;
  each = pushed Field fs f s.each w;
  left = λ l. elim (stops rest f 32 more e w.1 no_space (s.left l)) [ inl z ↦ absurd (omega arith) | inr x ↦ x.1 ];
}

-- the last field, and a line feed: the line ends after as many bytes as stand before the line feed
pub done : (text : List ℕ) (fs : List (List ℕ)) (rest f after : List ℕ) → Sofar text fs rest → Field f → rest ≡ f ++ (10 ∷ after) → (text ≡ (led fs ++ f) ++ 10 ∷ after) × Fields (led fs ++ f) (fs ++ f ∷ [])
done text fs rest f after s w e = (
  s.is ∙ ap (λ t. led fs ++ t) e ∙ sym (append_assoc (led fs) f (10 ∷ after)),
  record { is = spaced_led fs f; each = pushed Field fs f s.each w; some = omega (arith, length_push fs f) },
)

-- what `span` and `split_at` found: the first n bytes of rest, which a field may hold, and what follows
pub record Span (rest f after : List ℕ) (n : ℕ) : Type 0 where
  pub within : n ≤ length rest
  pub marks : AllByRecursion Mark (take n rest)
  pub stops : n < length rest → Mark (get_or rest n 0) → ⊥
  pub front : f ≡ take n rest
  pub back : after ≡ drop n rest

module _ (rest f after : List ℕ) (n : ℕ) (s : Span rest f after n) where
  pub all_marks : AllByRecursion Mark f
  all_marks = subst (AllByRecursion Mark) (sym s.front) s.marks

  pub whole : rest ≡ f ++ after
  whole = sym (take-append-drop n rest) ∙ ap (λ t. t ++ drop n rest) (sym s.front) ∙ ap (λ t. f ++ t) (sym s.back)

  pub not_mark : 0 < length after → Mark (get_or after 0 0) → ⊥
  not_mark h m =
      let e : get_or after 0 0 ≡ get_or rest n 0 = ap (λ l. get_or l 0 0) s.back ∙ get_or-drop n rest 0 0 ∙ ap (λ i. get_or rest i 0) (add-zero n) in
      s.stops (omega (arith, ap length s.back, length-drop n rest)) (subst Mark e m)

pub headed : (after : List ℕ) (b : ℕ) → 0 < length after → get_or after 0 0 ≡ b → after ≡ b ∷ take (length after - 1) (drop 1 after)
headed after b h e = drop_more after 0 0 h ∙ ap (λ c. c ∷ drop 1 after) e ∙ ap (λ t. b ∷ t) (sym (take_rest after 1))

-- What `first_field` parts off a line of fields is its first field, and the others are left.
pub first_of : (f : List ℕ) (fs : List (List ℕ)) (front rest : List ℕ) → AllByRecursion Field (f ∷ fs) → Parted (spaced (f ∷ fs)) front rest → (front ≡ f) × (rest ≡ spaced fs)
first_of f [] front rest w (m, inl (e, n)) = (sym e, n)
first_of f [] front rest w (m, inr (b, p, e)) = absurd (no_stop Mark front f b rest w.0.1 p (sym e))
first_of f (g ∷ fs) front rest w (m, inl (e, n)) = absurd (no_stop Mark f front 32 (spaced (g ∷ fs)) m no_space e)
first_of f (g ∷ fs) front rest w (m, inr (b, p, e)) =
    let r = same_cut Mark front f b 32 rest (spaced (g ∷ fs)) m w.0.1 p no_space (sym e) in
    (r.0, r.2)

-- what has come is as long as the text without the rest, and each field of it has a byte and the space after it
pub room : (text : List ℕ) (fs : List (List ℕ)) (rest : List ℕ) → Sofar text fs rest → length fs + length rest ≤ length text
room text fs rest s = omega (arith, ap length s.is, length-append (led fs) rest, led_length fs)
  where
    led_length : (gs : List (List ℕ)) → length gs ≤ length (led gs)
    led_length [] = omega arith
    led_length (g ∷ gs) = omega (arith, led_length gs, length-append g (32 ∷ led gs))

-- the line before a line feed is the text without what follows the last field
pub line_is : (text : List ℕ) (fs : List (List ℕ)) (rest f after : List ℕ) → Sofar text fs rest → rest ≡ f ++ after → take (length text - length after) text ≡ led fs ++ f
line_is text fs rest f after s e =
    let is : text ≡ (led fs ++ f) ++ after = s.is ∙ ap (λ t. led fs ++ t) e ∙ sym (append_assoc (led fs) f after) in
    ap (take (length text - length after)) is ∙ take_at (led fs ++ f) after (length text - length after) (omega (arith, ap length is, length-append (led fs ++ f) after))
