-- One line more: from a place to the next, or a refusal there.
use Rattle.std.proofs.Common.{◌≡◌, ℕ, ◌+◌, ◌<◌, ◌≤◌, true, false, cond, ◌⊎◌, List, [], ◌∷◌, ◌++◌, map, length, Err, sym, refl, ap, ◌∙◌, subst, inl, inr, append_assoc, append-nil, arith}
use native.Mathlib.Decide.{ℕ_discrete}
use Rattle.std.specs.List.{flat_map, AllByRecursion}
use Rattle.std.proofs.lemmas.List.Elements.{All-append, All-weaker, All-from_recursion, recursion_from_All}
use Rattle.std.proofs.lemmas.List.{length-append, length_push, map_push, flat_map_more}
use Rattle.fault.specs.Checks.{Fails}
use Rattle.text.specs.Lines.{Mark, Field, Fields, Unbroken, spaced}
use Rattle.text.proofs.Recursion.{pushed}
use Rattle.mesh.specs.declared.link.Link.{Link}
use Rattle.mesh.specs.Rules.{InRange, EndsDiffer, Joins}
use Rattle.mesh.proofs.Grown.{once_push}
use Rattle.vocab.specs.declared.kinds.Table.TheVariants.{Settings, Links, Steps}
use Rattle.vocab.specs.declared.kinds.Setting.{Setting}
use Rattle.vocab.specs.declared.kinds.Step.{Step}
use Rattle.vocab.specs.declared.faults.LineFault.{LineFault}
use Rattle.vocab.specs.declared.faults.LineFault.TheVariants.{Layout}
use Rattle.vocab.specs.declared.faults.ReadFault.{ReadFault}
use Rattle.vocab.specs.declared.faults.ReadFault.TheVariants.{Line, Missing}
use Rattle.format.specs.Columns.{Order, arranged, row}
use Rattle.format.specs.Tables.{link_values, step_values}
use Rattle.vocab.specs.Words.{names}
use Rattle.format.specs.Content.{setting_text, links_text, steps_text}
use Rattle.format.specs.Stages.{NextLine}
use Rattle.format.specs.Verdict.{Place, at_setting_names, at_setting, at_link_names, at_links, at_steps, UpTo, Refuses, MayEnd, line_number, line_checks, digit_first, names_checks, link_line_checks, LinkLine}

marks_unbroken : (f : List ℕ) → AllByRecursion Mark f → Unbroken f
marks_unbroken f w = recursion_from_All _ f (All-weaker Mark (λ b. b ≡ 10 → ⊥) (λ b m e. omega (arith, m.0, e)) f (All-from_recursion Mark f w))

spaced_unbroken : (fs : List (List ℕ)) → AllByRecursion Field fs → Unbroken (spaced fs)
spaced_unbroken [] w = tt
spaced_unbroken (f ∷ []) w = marks_unbroken f w.0.1
spaced_unbroken (f ∷ g ∷ fs) w = recursion_from_All _ (f ++ 32 ∷ spaced (g ∷ fs)) (All-append (λ b. b ≡ 10 → ⊥) f (32 ∷ spaced (g ∷ fs)) (All-from_recursion _ f (marks_unbroken f w.0.1)) (All-from_recursion _ (32 ∷ spaced (g ∷ fs)) (λ e. omega arith, spaced_unbroken (g ∷ fs) w.1)))

-- a line of fields has no line feed
pub fields_unbroken : (line : List ℕ) (fs : List (List ℕ)) → Fields line fs → Unbroken line
fields_unbroken line fs w = subst Unbroken (sym w.is) (spaced_unbroken fs w.each)

-- a text has a first line, or no line feed
pub line_or_none : (t : List ℕ) → Unbroken t ⊎ ((line : List ℕ) × (after : List ℕ) × (t ≡ line ++ 10 ∷ after) × Unbroken line)
line_or_none [] = inl tt
line_or_none (b ∷ t) = elim (ℕ_discrete b 10) [
  | yes e ↦ inr ([], t, ap (λ c. c ∷ t) e, tt)
  | no c ↦ elim (line_or_none t) [
    | inl u ↦ inl (c, u)
    | inr r ↦ inr (b ∷ r.0, r.1, ap (λ x. b ∷ x) r.2, (c, r.3))
  ]
]

-- A line that is not made of fields fails the first check of any place.
layout_fails : (p : Place) (line : List ℕ) → ((fs : List (List ℕ)) → Fields line fs → ⊥) → Fails (line_checks p line) Layout
layout_fails at_setting_names line h = inl (λ c. h c.0 c.1.0, refl)
layout_fails (at_setting o) line h = inl (λ c. h c.0 c.1.0, refl)
layout_fails (at_link_names o k) line h = inl (λ c. h c.0 c.1.0, refl)
layout_fails (at_links o k p ls) line h =
    elim (digit_first line) as (λ b. Fails (cond b (link_line_checks p k.nodes ls line) (names_checks (names Steps) line)) Layout) [
      | true ↦ inl (λ c. h c.0 c.1.0, refl)
      | false ↦ inl (λ c. h c.0 c.1.0, refl)
    ]
layout_fails (at_steps o k p ls q ss) line h = inl (λ c. h c.0 c.1.0, refl)

-- A check of the line at a place fails.
pub refuse : (bytes : List ℕ) (p : Place) (rest line after : List ℕ) (e : LineFault) (f : ReadFault) → UpTo bytes p rest → rest ≡ line ++ 10 ∷ after → (fs : List (List ℕ)) → Fields line fs → Fails (line_checks p line) e → f ≡ Line (line_number p) e → Refuses bytes f
refuse bytes p rest line after e f u is fs w h g = inr (p, rest, u, inr (inr (line, after, e, is, fields_unbroken line fs w, h, g)))

-- The line at a place does not come, or is no line of fields.
pub refuse_next : (bytes : List ℕ) (p : Place) (rest : List ℕ) (k : ℕ) (f : ReadFault) → UpTo bytes p rest → (MayEnd p → ⊥) ⊎ (0 < length rest) → k ≡ line_number p → NextLine k rest (Err f) → Refuses bytes f
refuse_next bytes p rest k f u m n (inl (e, g)) =
    inr (p, rest, u, inl (e, elim m [ inl h ↦ h | inr h ↦ absurd (omega (arith, ap length e)) ], g ∙ ap (λ i. Missing i) n))
refuse_next bytes p rest k f u m n (inr (some, none, g)) = elim (line_or_none rest) [
  | inl b ↦ inr (p, rest, u, inr (inl (some, b, g ∙ ap (λ i. Line i Layout) n)))
  | inr r ↦ inr (p, rest, u, inr (inr (r.0, r.1, Layout, r.2, r.3, layout_fails p r.0 (λ fs w. none r.0 r.1 fs r.2 w), g ∙ ap (λ i. Line i Layout) n)))
]

-- the text before the next line, with that line
grown : (bytes B rest line s after : List ℕ) → bytes ≡ B ++ rest → rest ≡ line ++ 10 ∷ after → line ≡ s → bytes ≡ (B ++ (s ++ 10 ∷ [])) ++ after
grown bytes B rest line s after e f g =
    e ∙ ap (λ t. B ++ t) (f ∙ ap (λ t. t ++ 10 ∷ after) g ∙ sym (append_assoc s (10 ∷ []) after)) ∙ sym (append_assoc B (s ++ 10 ∷ []) after)

module _ (bytes rest line after : List ℕ) (is : rest ≡ line ++ 10 ∷ after) where
  pub to_setting : (o : List ℕ) → UpTo bytes at_setting_names rest → Order 5 o → line ≡ spaced (arranged o (names Settings)) → UpTo bytes (at_setting o) after
  to_setting o u q e = record { short = u.short; sound = q; is = grown bytes [] rest line _ after u.is is e }

  pub to_links : (o : List ℕ) (h : Setting) (p : List ℕ) → UpTo bytes (at_link_names o h) rest → Order 4 p → line ≡ spaced (arranged p (names Links)) → UpTo bytes (at_links o h p []) after
  to_links o h p u q e = record {
    short = u.short;
    sound = (u.sound.0, u.sound.1, q, record { few = omega arith; each = tt; once = λ i j d k. omega arith });
    is = grown bytes (setting_text o h) rest line _ after u.is is e ∙ ap (λ t. (setting_text o h ++ t) ++ after) (sym (append-nil (row p (names Links))));
  }

  pub more_links : (o : List ℕ) (h : Setting) (p : List ℕ) (ls : List Link) (l : Link) → UpTo bytes (at_links o h p ls) rest → LinkLine p h.nodes line l → length ls < 512 → EndsDiffer l → (Joins ls l.from l.to → ⊥) → UpTo bytes (at_links o h p (ls ++ l ∷ [])) after
  more_links o h p ls l u w room d fresh =
      let k = u.sound.3 in
      record {
        short = u.short;
        sound = (
          u.sound.0,
          u.sound.1,
          u.sound.2,
          record {
            few = omega (arith, length_push ls l);
            each = pushed (λ x. InRange h.nodes x × EndsDiffer x) ls l k.each (w.range, d);
            once = once_push ls l k.once fresh;
          },
        );
        is =
            grown bytes (setting_text o h ++ links_text p ls) rest line _ after u.is is w.is
            ∙ ap (λ t. t ++ after) (append_assoc (setting_text o h) (links_text p ls) (row p (link_values l))
            ∙ ap (λ t. setting_text o h ++ t) (flat_map_more (row p) (row p (names Links)) (map link_values ls) (link_values l) ∙ ap (λ t. row p (names Links) ++ flat_map (row p) t) (sym (map_push link_values ls l))));
      }

  pub to_steps : (o : List ℕ) (h : Setting) (p : List ℕ) (ls : List Link) (q : List ℕ) → UpTo bytes (at_links o h p ls) rest → Order 2 q → line ≡ spaced (arranged q (names Steps)) → UpTo bytes (at_steps o h p ls q []) after
  to_steps o h p ls q u r e = record {
    short = u.short;
    sound = (u.sound.0, u.sound.1, u.sound.2, u.sound.3, r, tt);
    is = grown bytes (setting_text o h ++ links_text p ls) rest line _ after u.is is e ∙ ap (λ t. ((setting_text o h ++ links_text p ls) ++ t) ++ after) (sym (append-nil (row q (names Steps))));
  }

  pub more_steps : (o : List ℕ) (h : Setting) (p : List ℕ) (ls : List Link) (q : List ℕ) (ss : List Step) (s : Step) → UpTo bytes (at_steps o h p ls q ss) rest → s.pick ≤ 65535 → line ≡ spaced (arranged q (step_values s)) → UpTo bytes (at_steps o h p ls q (ss ++ s ∷ [])) after
  more_steps o h p ls q ss s u k e = record {
    short = u.short;
    sound = (u.sound.0, u.sound.1, u.sound.2, u.sound.3, u.sound.4, pushed (λ x. x.pick ≤ 65535) ss s u.sound.5 k);
    is =
        grown bytes ((setting_text o h ++ links_text p ls) ++ steps_text q ss) rest line _ after u.is is e
        ∙ ap (λ t. t ++ after) (append_assoc (setting_text o h ++ links_text p ls) (steps_text q ss) (row q (step_values s))
        ∙ ap (λ t. (setting_text o h ++ links_text p ls) ++ t) (flat_map_more (row q) (row q (names Steps)) (map step_values ss) (step_values s) ∙ ap (λ t. row q (names Steps) ++ flat_map (row q) t) (sym (map_push step_values ss s))));
  }

-- The checks of a line of the table of links, by its first byte.
pub link_line_at : (o : List ℕ) (h : Setting) (p : List ℕ) (ls : List Link) (line : List ℕ) → digit_first line ≡ true → link_line_checks p h.nodes ls line ≡ line_checks (at_links o h p ls) line
link_line_at o h p ls line e = ap (λ b. cond b (link_line_checks p h.nodes ls line) (names_checks (names Steps) line)) (sym e)

pub names_line_at : (o : List ℕ) (h : Setting) (p : List ℕ) (ls : List Link) (line : List ℕ) → digit_first line ≡ false → names_checks (names Steps) line ≡ line_checks (at_links o h p ls) line
names_line_at o h p ls line e = ap (λ b. cond b (link_line_checks p h.nodes ls line) (names_checks (names Steps) line)) (sym e)

-- A line of two fields has four bytes at the least, its line feed included.
pub four_bytes : (rest line after : List ℕ) (fs : List (List ℕ)) → rest ≡ line ++ 10 ∷ after → Fields line fs → length fs ≡ 2 → length after + 4 ≤ length rest
four_bytes rest line after [] e w n = absurd (omega arith)
four_bytes rest line after (f ∷ []) e w n = absurd (omega arith)
four_bytes rest line after (f ∷ g ∷ []) e w n =
    omega (arith, ap length e, length-append line (10 ∷ after), ap length w.is, length-append f (32 ∷ g), w.each.0.0, w.each.1.0.0)
four_bytes rest line after (f ∷ g ∷ h ∷ fs) e w n = absurd (omega arith)
