-- A file has one judgement.
--
-- From a place a line leads to at most one next place, and a line that leads on fails no check. So two readings of one
-- file go through the same places as far as both go; where one of them stops, the other stops too or goes on, and a
-- line that goes on can't be the reason to stop.
use Rattle.std.proofs.Common.{◌≡◌, ℕ, ◌+◌, ◌<◌, ◌≤◌, true, false, ◌⊎◌, List, [], ◌∷◌, ◌++◌, map, length, get_or, sym, refl, ap, ◌∙◌, subst, inl, inr, append_assoc, append-nil, arith}
use Rattle.std.specs.List.{flat_map, AllByRecursion}
use Rattle.std.proofs.lemmas.List.Elements.{All-from_recursion}
use Rattle.std.proofs.lemmas.List.{length-append, get_or_at, get_or_append_left, ext_get_or, get_or-map}
use Rattle.std.proofs.lemmas.Bool.{true≢false}
use Rattle.fault.specs.Checks.{Passes, Fails}
use Rattle.fault.proofs.Ordered.{fails_same, passes_not_fails, passes_both}
use Rattle.text.specs.Lines.{Unbroken, spaced}
use Rattle.text.specs.FieldsOnce.{same_cut, no_stop, fields_same}
use Rattle.mesh.specs.declared.link.Link.{Link}
use Rattle.mesh.specs.Rules.{InRange, EndsDiffer, Joins}
use Rattle.vocab.specs.declared.kinds.Table.{Table}
use Rattle.vocab.specs.declared.kinds.Table.TheVariants.{Settings, Links, Steps}
use Rattle.vocab.specs.declared.kinds.Setting.{Setting}
use Rattle.vocab.specs.declared.kinds.Step.{Step}
use Rattle.vocab.specs.declared.faults.ReadFault.{ReadFault}
use Rattle.vocab.specs.declared.faults.ReadFault.TheVariants.{Line}
use Rattle.format.specs.Columns.{Order, arranged, row}
use Rattle.format.specs.Tables.{setting_values, link_values, step_values, setting_takes, link_takes, step_takes}
use Rattle.vocab.specs.Words.{names}
use Rattle.format.specs.Content.{Content, SettingKept, LinksKept, setting_text, links_text, steps_text}
use Rattle.format.specs.Verdict.{Place, at_setting_names, at_setting, at_link_names, at_links, at_steps, before, Sound, UpTo, RefusedAt, Accepts, Refuses, line_number, line_checks, digit_first, names_checks, field_checks, LinkLine, Judgement, accepted, refused, Judges, Judged}
use Rattle.format.proofs.Orders.{cut_of}
use Rattle.format.proofs.Known.{names_fields, names_apart, names_some, setting_fields, link_fields, step_fields}
use Rattle.format.proofs.Holding.{row_passes, setting_holds, link_holds, step_holds, link_first, names_first}
use Rattle.format.proofs.Unique.{setting_same, link_same, step_same}
use Rattle.format.proofs.Walks.{fields_unbroken, link_line_at, names_line_at}

-- A line of names has one order: each field is one of the words, which are apart.
order_same : (t : Table) (o p line : List ℕ) → Order (length (names t)) o → Order (length (names t)) p → line ≡ spaced (arranged o (names t)) → line ≡ spaced (arranged p (names t)) → o ≡ p
order_same t o p line q r e f =
    let ws = names t in
    let a = cut_of o ws line q (names_some t).0 (names_fields t) e in
    let b = cut_of p ws line r (names_some t).0 (names_fields t) f in
    let g = fields_same line _ _ a.0 b.0 in
    ext_get_or 0 o p (q.long ∙ sym r.long) (λ i l.
    let m : i < length p = omega (arith, q.long, r.long) in
    names_apart t (get_or o i 0) (get_or p i 0) (All-from_recursion (λ k. k < length ws) o q.below i 0 l) (All-from_recursion (λ k. k < length ws) p r.below i 0 m)
    (sym (get_or-map (λ k. get_or ws k []) o i 0 [] l) ∙ ap (λ x. get_or x i []) g ∙ get_or-map (λ k. get_or ws k []) p i 0 [] m))

-- the line leads from a place to the next
abbrev Goes : Place → List ℕ → Place → Type 0
Goes at_setting_names line r = (o : List ℕ) × Order 5 o × (line ≡ spaced (arranged o (names Settings))) × (r ≡ at_setting o)
Goes (at_setting o) line r = (h : Setting) × Order 5 o × SettingKept h × (line ≡ spaced (arranged o (setting_values h))) × (r ≡ at_link_names o h)
Goes (at_link_names o h) line r = (p : List ℕ) × Order 4 p × (line ≡ spaced (arranged p (names Links))) × (r ≡ at_links o h p [])
Goes (at_links o h p ls) line r =
    ((l : Link) × (digit_first line ≡ true) × Order 4 p × (h.nodes ≤ 64) × LinkLine p h.nodes line l × (length ls < 512) × EndsDiffer l × (Joins ls l.from l.to → ⊥) × (r ≡ at_links o h p (ls ++ l ∷ [])))
    ⊎ ((q : List ℕ) × (digit_first line ≡ false) × Order 2 q × (line ≡ spaced (arranged q (names Steps))) × (r ≡ at_steps o h p ls q []))
Goes (at_steps o h p ls q ss) line r = (s : Step) × Order 2 q × (s.pick ≤ 65535) × (line ≡ spaced (arranged q (step_values s))) × (r ≡ at_steps o h p ls q (ss ++ s ∷ []))

-- Where a line leads is fixed.
goes_same : (a : Place) (line : List ℕ) (b c : Place) → Goes a line b → Goes a line c → b ≡ c
goes_same at_setting_names line b c (o, q, e, f) (p, r, g, i) = f ∙ ap at_setting (order_same Settings o p line q r e g) ∙ sym i
goes_same (at_setting o) line b c (h, q, k, e, f) (j, r, m, g, i) =
    f ∙ ap (at_link_names o) (setting_same o line h j q (record { is = e; range = k.range }) (record { is = g; range = m.range })) ∙ sym i
goes_same (at_link_names o h) line b c (p, q, e, f) (p', r, g, i) = f ∙ ap (λ x. at_links o h x []) (order_same Links p p' line q r e g) ∙ sym i
goes_same (at_links o h p ls) line b c (inl (l, d, q, few, w, room, n, fresh, f)) (inl (m, d', q', few', w', room', n', fresh', i)) =
    f ∙ ap (λ x. at_links o h p (ls ++ x ∷ [])) (link_same p h.nodes line l m q few w w') ∙ sym i
goes_same (at_links o h p ls) line b c (inl (l, d, q, few, w, room, n, fresh, f)) (inr (r, d', q', e, i)) = absurd (true≢false (sym d ∙ d'))
goes_same (at_links o h p ls) line b c (inr (r, d, q, e, f)) (inl (m, d', q', few', w', room', n', fresh', i)) = absurd (true≢false (sym d' ∙ d))
goes_same (at_links o h p ls) line b c (inr (r, d, q, e, f)) (inr (r', d', q', e', i)) = f ∙ ap (λ x. at_steps o h p ls x []) (order_same Steps r r' line q q' e e') ∙ sym i
goes_same (at_steps o h p ls q ss) line b c (s, r, k, e, f) (t, r', k', e', i) =
    f ∙ ap (λ x. at_steps o h p ls q (ss ++ x ∷ [])) (step_same q line s t r k k' e e') ∙ sym i

names_pass : (t : Table) (o line : List ℕ) → Order (length (names t)) o → line ≡ spaced (arranged o (names t)) → Passes (names_checks (names t) line)
names_pass t o line q e = ((_, cut_of o (names t) line q (names_some t).0 (names_fields t) e), ((o, q, e), tt))

-- A line that leads on passes all its checks.
goes_pass : (a : Place) (line : List ℕ) (b : Place) → Goes a line b → Passes (line_checks a line)
goes_pass at_setting_names line b (o, q, e, f) = names_pass Settings o line q e
goes_pass (at_setting o) line b (h, q, k, e, f) = (
  (_, cut_of o (setting_values h) line q (omega arith) (setting_fields h k.range) e),
  passes_both (field_checks setting_takes line 0 o) _
      (row_passes setting_takes o (setting_values h) line q (omega arith) (setting_fields h k.range) (setting_holds h k.range) e)
      ((h, record { is = e; range = k.range }, k.rooted), tt),
)
goes_pass (at_link_names o h) line b (p, q, e, f) = names_pass Links p line q e
goes_pass (at_links o h p ls) line b (inl (l, d, q, few, w, room, n, fresh, f)) =
    subst Passes (link_line_at o h p ls line d) (
      (_, cut_of p (link_values l) line q (omega arith) (link_fields h.nodes l few w.range) w.is),
      (
        room,
        passes_both (field_checks (link_takes h.nodes) line 0 p) _
            (row_passes (link_takes h.nodes) p (link_values l) line q (omega arith) (link_fields h.nodes l few w.range) (link_holds h.nodes l w.range) w.is)
            ((l, w, n), ((l, w, fresh), tt)),
      ),
    )
goes_pass (at_links o h p ls) line b (inr (r, d, q, e, f)) = subst Passes (names_line_at o h p ls line d) (names_pass Steps r line q e)
goes_pass (at_steps o h p ls q ss) line b (s, r, k, e, f) = (
  (_, cut_of q (step_values s) line r (omega arith) (step_fields s k) e),
  row_passes step_takes q (step_values s) line r (omega arith) (step_fields s k) (step_holds s k) e,
)

-- such a line has no line feed
goes_unbroken : (a : Place) (line : List ℕ) (b : Place) → Goes a line b → Unbroken line
goes_unbroken at_setting_names line b g = let c = (goes_pass at_setting_names line b g).0 in fields_unbroken line c.0 c.1.0
goes_unbroken (at_setting o) line b g = let c = (goes_pass (at_setting o) line b g).0 in fields_unbroken line c.0 c.1.0
goes_unbroken (at_link_names o h) line b g = let c = (goes_pass (at_link_names o h) line b g).0 in fields_unbroken line c.0 c.1.0
goes_unbroken (at_links o h p ls) line b (inl (l, d, q, few, w, room, n, fresh, f)) =
    let c = cut_of p (link_values l) line q (omega arith) (link_fields h.nodes l few w.range) w.is in fields_unbroken line _ c.0
goes_unbroken (at_links o h p ls) line b (inr (r, d, q, e, f)) = let c = (names_pass Steps r line q e).0 in fields_unbroken line c.0 c.1.0
goes_unbroken (at_steps o h p ls q ss) line b g = let c = (goes_pass (at_steps o h p ls q ss) line b g).0 in fields_unbroken line c.0 c.1.0

-- a line and the place that it leads to
record Hop : Type 0 where
  line : List ℕ
  to : Place

abbrev Leads : Place → List Hop → Place → Type 0
Leads a [] b = b ≡ a
Leads a (x ∷ xs) b = Goes a x.line x.to × Leads x.to xs b

abbrev hops_text : List Hop → List ℕ
hops_text [] = []
hops_text (x ∷ xs) = x.line ++ 10 ∷ hops_text xs

-- from this place the rest goes on with a line that leads to another
record Further (a : Place) (rest : List ℕ) : Type 0 where
  line : List ℕ
  after : List ℕ
  to : Place
  is : rest ≡ line ++ 10 ∷ after
  goes : Goes a line to

-- Two readings of one text, from one place on: they come to the same place, or one of them goes further.
compare : (a : Place) (xs ys : List Hop) (b c : Place) (r s : List ℕ) → Leads a xs b → Leads a ys c → hops_text xs ++ r ≡ hops_text ys ++ s → ((b ≡ c) × (r ≡ s)) ⊎ (Further b r ⊎ Further c s)
compare a [] [] b c r s f g e = inl (f ∙ sym g, e)
compare a [] (y ∷ ys) b c r s f (g, gs) e =
    inr (inl (record { line = y.line; after = hops_text ys ++ s; to = y.to; is = e ∙ append_assoc y.line (10 ∷ hops_text ys) s; goes = subst (λ x. Goes x y.line y.to) (sym f) g }))
compare a (x ∷ xs) [] b c r s (f, fs) g e =
    inr (inr (record { line = x.line; after = hops_text xs ++ r; to = x.to; is = sym e ∙ append_assoc x.line (10 ∷ hops_text xs) r; goes = subst (λ z. Goes z x.line x.to) (sym g) f }))
compare a (x ∷ xs) (y ∷ ys) b c r s (f, fs) (g, gs) e =
    let t = same_cut (λ b. b ≡ 10 → ⊥) x.line y.line 10 10 (hops_text xs ++ r) (hops_text ys ++ s) (goes_unbroken a x.line x.to f) (goes_unbroken a y.line y.to g) (λ h. h refl) (λ h. h refl) (sym (append_assoc x.line (10 ∷ hops_text xs) r) ∙ e ∙ append_assoc y.line (10 ∷ hops_text ys) s) in
    let to : y.to ≡ x.to = goes_same a y.line y.to x.to g (subst (λ l. Goes a l x.to) t.0 f) in
    compare x.to xs ys b c r s fs (subst (λ p. Leads p ys c) to gs) t.2

-- one hop after others
leads_then : (a : Place) (xs ys : List Hop) (b c : Place) → Leads a xs b → Leads b ys c → Leads a (xs ++ ys) c
leads_then a [] ys b c f g = subst (λ p. Leads p ys c) f g
leads_then a (x ∷ xs) ys b c (f, fs) g = (f, leads_then x.to xs ys b c fs g)

hops_append : (xs ys : List Hop) → hops_text (xs ++ ys) ≡ hops_text xs ++ hops_text ys
hops_append [] ys = refl
hops_append (x ∷ xs) ys = ap (λ t. x.line ++ 10 ∷ t) (hops_append xs ys) ∙ sym (append_assoc x.line (10 ∷ hops_text xs) (hops_text ys))

-- The lines of some links lead from the links before to all of them.
module _ (o : List ℕ) (h : Setting) (p : List ℕ) (q : Order 4 p) (few : h.nodes ≤ 64) where
  link_hops : (ls ms : List Link) → LinksKept h.nodes (ls ++ ms) → (xs : List Hop) × Leads (at_links o h p ls) xs (at_links o h p (ls ++ ms)) × (hops_text xs ≡ flat_map (row p) (map link_values ms))
  link_hops ls [] k = ([], ap (at_links o h p) (append-nil ls), refl)
  link_hops ls (l ∷ ms) k =
      let e = append_assoc ls (l ∷ []) ms in
      let n : length (ls ++ l ∷ ms) ≡ length ls + length (l ∷ ms) = length-append ls (l ∷ ms) in
      let here : get_or (ls ++ l ∷ ms) (length ls) l ≡ l = get_or_at ls l ms l (length ls) refl in
      let in' : length ls < length (ls ++ l ∷ ms) = omega arith in
      let w = subst (λ x. InRange h.nodes x × EndsDiffer x) here (All-from_recursion (λ x. InRange h.nodes x × EndsDiffer x) (ls ++ l ∷ ms) k.each (length ls) l in') in
      let fresh : Joins ls l.from l.to → ⊥ = λ j.
      let first : get_or (ls ++ l ∷ ms) j.0 l ≡ get_or ls j.0 l = get_or_append_left ls (l ∷ ms) l j.0 j.1 in
      let x = j.2 l in
      k.once j.0 (length ls) l (j.1, in', (ap (λ y. y.from) first ∙ x.0 ∙ ap (λ y. y.from) (sym here), ap (λ y. y.to) first ∙ x.1 ∙ ap (λ y. y.to) (sym here))) in
      let line = spaced (arranged p (link_values l)) in
      let r = link_hops (ls ++ l ∷ []) ms (subst (LinksKept h.nodes) (sym e) k) in (
        record { line = line; to = at_links o h p (ls ++ l ∷ []) } ∷ r.0,
        (
          inl (l, link_first p h.nodes l q few w.0, q, few, record { is = refl; range = w.0 }, omega (arith, k.few), w.1, fresh, refl),
          subst (λ x. Leads (at_links o h p (ls ++ l ∷ [])) r.0 (at_links o h p x)) e r.1,
        ),
        ap (λ t. line ++ 10 ∷ t) r.2 ∙ sym (append_assoc line (10 ∷ []) (flat_map (row p) (map link_values ms))),
      )

  step_hops : (ls : List Link) (r : List ℕ) (ss ts : List Step) → Order 2 r → AllByRecursion (λ s. s.pick ≤ 65535) ts → (xs : List Hop) × Leads (at_steps o h p ls r ss) xs (at_steps o h p ls r (ss ++ ts)) × (hops_text xs ≡ flat_map (row r) (map step_values ts))
  step_hops ls r ss [] d k = ([], ap (at_steps o h p ls r) (append-nil ss), refl)
  step_hops ls r ss (t ∷ ts) d k =
      let line = spaced (arranged r (step_values t)) in
      let x = step_hops ls r (ss ++ t ∷ []) ts d k.1 in (
        record { line = line; to = at_steps o h p ls r (ss ++ t ∷ []) } ∷ x.0,
        ((t, d, k.0, refl, refl), subst (λ y. Leads (at_steps o h p ls r (ss ++ t ∷ [])) x.0 (at_steps o h p ls r y)) (append_assoc ss (t ∷ []) ts) x.1),
        ap (λ u. line ++ 10 ∷ u) x.2 ∙ sym (append_assoc line (10 ∷ []) (flat_map (row r) (map step_values ts))),
      )

-- what leads to a place from the start: lines whose text is the text before the place
record Path (b : Place) : Type 0 where
  hops : List Hop
  leads : Leads at_setting_names hops b
  text : hops_text hops ≡ before b

on : (a b : Place) (t : List ℕ) → Path a → (ys : List Hop) → Leads a ys b → hops_text ys ≡ t → before b ≡ before a ++ t → Path b
on a b t w ys g e f = record {
  hops = w.hops ++ ys;
  leads = leads_then at_setting_names w.hops ys a b w.leads g;
  text = hops_append w.hops ys ∙ ap (λ x. x ++ hops_text ys) w.text ∙ ap (λ x. before a ++ x) e ∙ sym f;
}

-- Where all that stands before a place keeps the rules, its lines lead there.
path_start : Path at_setting_names
path_start = record { hops = []; leads = refl; text = refl }

path_setting : (o : List ℕ) → Order 5 o → Path (at_setting o)
path_setting o q =
    on at_setting_names (at_setting o) (row o (names Settings)) path_start
    (record { line = spaced (arranged o (names Settings)); to = at_setting o } ∷ []) ((o, q, refl, refl), refl) refl refl

path_link_names : (o : List ℕ) (h : Setting) → Order 5 o → SettingKept h → Path (at_link_names o h)
path_link_names o h q k =
    on (at_setting o) (at_link_names o h) (row o (setting_values h)) (path_setting o q)
    (record { line = spaced (arranged o (setting_values h)); to = at_link_names o h } ∷ []) ((h, q, k, refl, refl), refl) refl (ap (λ t. row o (names Settings) ++ t) (append-nil (row o (setting_values h))))

path_links : (o : List ℕ) (h : Setting) (p : List ℕ) (ls : List Link) → Order 5 o → SettingKept h → Order 4 p → LinksKept h.nodes ls → Path (at_links o h p ls)
path_links o h p ls q k r m =
    let first = on (at_link_names o h) (at_links o h p []) (row p (names Links)) (path_link_names o h q k)
    (record { line = spaced (arranged p (names Links)); to = at_links o h p [] } ∷ []) ((p, r, refl, refl), refl) refl (ap (λ t. setting_text o h ++ t) (append-nil (row p (names Links)))) in
    let x = link_hops o h p r k.range.few [] ls m in
    on (at_links o h p []) (at_links o h p ls) (flat_map (row p) (map link_values ls)) first x.0 x.1 x.2
    (ap (λ t. setting_text o h ++ t) (ap (λ t. t ++ flat_map (row p) (map link_values ls)) (sym (append-nil (row p (names Links))))) ∙ sym (append_assoc (setting_text o h) (links_text p []) (flat_map (row p) (map link_values ls))))

path : (b : Place) → Sound b → Path b
path at_setting_names s = path_start
path (at_setting o) q = path_setting o q
path (at_link_names o h) (q, k) = path_link_names o h q k
path (at_links o h p ls) (q, k, r, m) = path_links o h p ls q k r m
path (at_steps o h p ls r ss) (q, k, u, m, d, v) =
    let T = setting_text o h ++ links_text p ls in
    let first = on (at_links o h p ls) (at_steps o h p ls r []) (row r (names Steps)) (path_links o h p ls q k u m)
    (record { line = spaced (arranged r (names Steps)); to = at_steps o h p ls r [] } ∷ []) (inr (r, names_first r d, d, refl, refl), refl) refl (ap (λ t. T ++ t) (append-nil (row r (names Steps)))) in
    let x = step_hops o h p u k.range.few ls r [] ss d v in
    on (at_steps o h p ls r []) (at_steps o h p ls r ss) (flat_map (row r) (map step_values ss)) first x.0 x.1 x.2
    (ap (λ t. T ++ t) (ap (λ t. t ++ flat_map (row r) (map step_values ss)) (sym (append-nil (row r (names Steps))))) ∙ sym (append_assoc T (steps_text r []) (flat_map (row r) (map step_values ss))))

-- two places of one file
meet : (bytes : List ℕ) (a b : Place) (r s : List ℕ) → UpTo bytes a r → UpTo bytes b s → ((a ≡ b) × (r ≡ s)) ⊎ (Further a r ⊎ Further b s)
meet bytes a b r s u v =
    let x = path a u.sound in
    let y = path b v.sound in
    compare at_setting_names x.hops y.hops a b r s x.leads y.leads (ap (λ t. t ++ r) x.text ∙ sym u.is ∙ v.is ∙ ap (λ t. t ++ s) (sym y.text))

-- A file is not refused where it goes on.
goes_on : (a : Place) (rest : List ℕ) (f : ReadFault) → Further a rest → RefusedAt a rest f → ⊥
goes_on a rest f w (inl (e, m, g)) = omega (arith, ap length (sym e ∙ w.is), length-append w.line (10 ∷ w.after))
goes_on a rest f w (inr (inl (some, b, g))) = no_stop (λ x. x ≡ 10 → ⊥) w.line rest 10 w.after b (λ h. h refl) (sym w.is)
goes_on a rest f w (inr (inr (line, after, e, is, b, h, g))) =
    let t = same_cut (λ x. x ≡ 10 → ⊥) line w.line 10 10 after w.after b (goes_unbroken a w.line w.to w.goes) (λ x. x refl) (λ x. x refl) (sym is ∙ w.is) in
    passes_not_fails (line_checks a line) e (goes_pass a line w.to (subst (λ l. Goes a l w.to) (sym t.0) w.goes)) h

-- A place refuses what is left there with one fault.
refused_same : (a : Place) (rest : List ℕ) (f g : ReadFault) → RefusedAt a rest f → RefusedAt a rest g → f ≡ g
refused_same a rest f g (inl (e, m, x)) (inl (e', m', y)) = x ∙ sym y
refused_same a rest f g (inl (e, m, x)) (inr (inl (some, b, y))) = absurd (omega (arith, ap length e))
refused_same a rest f g (inl (e, m, x)) (inr (inr (line, after, k, is, b, h, y))) = absurd (omega (arith, ap length (sym e ∙ is), length-append line (10 ∷ after)))
refused_same a rest f g (inr (inl (some, b, x))) (inl (e, m, y)) = absurd (omega (arith, ap length e))
refused_same a rest f g (inr (inl (some, b, x))) (inr (inl (some', b', y))) = x ∙ sym y
refused_same a rest f g (inr (inl (some, b, x))) (inr (inr (line, after, k, is, b', h, y))) = absurd (no_stop (λ z. z ≡ 10 → ⊥) line rest 10 after b (λ z. z refl) (sym is))
refused_same a rest f g (inr (inr (line, after, k, is, b, h, x))) (inl (e, m, y)) = absurd (omega (arith, ap length (sym e ∙ is), length-append line (10 ∷ after)))
refused_same a rest f g (inr (inr (line, after, k, is, b, h, x))) (inr (inl (some, b', y))) = absurd (no_stop (λ z. z ≡ 10 → ⊥) line rest 10 after b' (λ z. z refl) (sym is))
refused_same a rest f g (inr (inr (line, after, k, is, b, h, x))) (inr (inr (line', after', k', is', b', h', y))) =
    let t = same_cut (λ z. z ≡ 10 → ⊥) line line' 10 10 after after' b b' (λ z. z refl) (λ z. z refl) (sym is ∙ is') in
    x ∙ ap (λ e. Line (line_number a) e) (fails_same (line_checks a line) k k' h (subst (λ l. Fails (line_checks a l) k') (sym t.0) h')) ∙ sym y

-- what is accepted is in order up to its end
pub whole : (bytes : List ℕ) (c : Content) (w : Accepts bytes c) → UpTo bytes (at_steps w.0 c.setting w.1 c.links w.2 c.steps) []
whole bytes c (o, p, q, short, a, b, d, k, e) = record { short = short; sound = (a, k.setting, b, k.links, d, k.steps); is = e ∙ sym (append-nil _) }

end_not_further : (a : Place) → Further a [] → ⊥
end_not_further a w = omega (arith, ap length w.is, length-append w.line (10 ∷ w.after))

-- the content that a place has, once the steps are reached
abbrev so_far : Place → Content → Content
so_far at_setting_names d = d
so_far (at_setting o) d = d
so_far (at_link_names o h) d = d
so_far (at_links o h p ls) d = d
so_far (at_steps o h p ls q ss) d = record { setting = h; links = ls; steps = ss }

end_not_refused : (o : List ℕ) (h : Setting) (p : List ℕ) (ls : List Link) (q : List ℕ) (ss : List Step) (f : ReadFault) → RefusedAt (at_steps o h p ls q ss) [] f → ⊥
end_not_refused o h p ls q ss f (inl (e, m, x)) = m tt
end_not_refused o h p ls q ss f (inr (inl (some, b, x))) = omega arith
end_not_refused o h p ls q ss f (inr (inr (line, after, k, is, b, g, x))) = omega (arith, ap length is, length-append line (10 ∷ after))

accepts_same : (bytes : List ℕ) (c d : Content) → Accepts bytes c → Accepts bytes d → c ≡ d
accepts_same bytes c d v w = elim (meet bytes _ _ [] [] (whole bytes c v) (whole bytes d w)) [
  | inl e ↦ ap (λ x. so_far x c) e.0
  | inr f ↦ absurd (elim f [ inl x ↦ end_not_further _ x | inr x ↦ end_not_further _ x ])
]

accepts_not_refuses : (bytes : List ℕ) (c : Content) (f : ReadFault) → Accepts bytes c → Refuses bytes f → ⊥
accepts_not_refuses bytes c f v (inl (long, e)) = omega (arith, (whole bytes c v).short)
accepts_not_refuses bytes c f v (inr (a, rest, u, w)) = elim (meet bytes _ a [] rest (whole bytes c v) u) [
  | inl e ↦ end_not_refused v.0 c.setting v.1 c.links v.2 c.steps f (subst (λ r. RefusedAt (at_steps v.0 c.setting v.1 c.links v.2 c.steps) r f) (sym e.1) (subst (λ x. RefusedAt x rest f) (sym e.0) w))
  | inr g ↦ elim g [ inl x ↦ end_not_further _ x | inr x ↦ goes_on a rest f x w ]
]

refuses_same : (bytes : List ℕ) (f g : ReadFault) → Refuses bytes f → Refuses bytes g → f ≡ g
refuses_same bytes f g (inl (l, x)) (inl (m, y)) = x ∙ sym y
refuses_same bytes f g (inl (l, x)) (inr (b, s, v, z)) = absurd (omega (arith, v.short))
refuses_same bytes f g (inr (a, r, u, w)) (inl (m, y)) = absurd (omega (arith, u.short))
refuses_same bytes f g (inr (a, r, u, w)) (inr (b, s, v, z)) = elim (meet bytes a b r s u v) [
  | inl e ↦ refused_same a r f g w (subst (λ t. RefusedAt a t g) (sym e.1) (subst (λ x. RefusedAt x s g) (sym e.0) z))
  | inr h ↦ absurd (elim h [ inl x ↦ goes_on a r f x w | inr x ↦ goes_on b s g x z ])
]

one : (bytes : List ℕ) (j k : Judgement) → Judges bytes j → Judges bytes k → k ≡ j
one bytes (accepted c) (accepted d) v w = ap accepted (accepts_same bytes d c w v)
one bytes (accepted c) (refused f) v w = absurd (accepts_not_refuses bytes c f v w)
one bytes (refused f) (accepted c) v w = absurd (accepts_not_refuses bytes c f w v)
one bytes (refused f) (refused g) v w = ap refused (refuses_same bytes g f w v)

-- A judgement of a file is its only one.
pub judged : (bytes : List ℕ) (j : Judgement) → Judges bytes j → Judged bytes j
judged bytes j w = record { is = w; only = λ k v. one bytes j k w v }
