-- What the scanners find, as the parts of a tail.
-- Assumes nothing.
use Rattle.std.specs.Prelude.{ℕ, suc, ◌+◌, ◌≤◌, ◌≡◌, List, [], ◌∷◌, ◌++◌, Bool, false, cond, ◌&&◌, eqb, ltb, length, Some, None}
use Rattle.std.proofs.Math.Path.{refl}
use Rattle.std.proofs.Common.{◌∙◌, length-append, eq-eqb, ne_eqb, eqb-true, lt-ltb, le-ltb}
use Rattle.std.proofs.Math.Bool.{true}
use native.Mathlib.Omega.{arith}
use Rattle.std.proofs.Math.ListN.{take, drop}
use Rattle.std.proofs.Math.Seq.{drop-drop}
use Rattle.std.proofs.lemmas.Bool.{eqb-false}
use Rattle.text.specs.Bytes.{bytes}
use Rattle.text.specs.Part.{every, starts_with}
use Rattle.identifiers.specs.Check as check
use Rattle.path.specs.declared.Place.{Place}
use Rattle.path.specs.declared.name.Name.{Name}
use Rattle.path.specs.declared.name.Name.TheVariants.{Port, Channel, Upgrade}
use Rattle.path.specs.Kinds.{Part, word, name, count, pair, carried}
use Rattle.path.specs.Read.{is_number, number_in}
use Rattle.path.specs.ExactLaws.{value-is}
use Rattle.path.specs.Spelled.{spelled}
use Rattle.text.specs.NumberLaws.{decimal-no-longer}
use Rattle.walk_scan.specs.declared.number.Counted.{Counted}
use Rattle.walk_scan.specs.Run.{run, nonzero, rule_run}
use Rattle.walk_scan.specs.RunLaws.{none-nonzero, some-nonzero}
use Rattle.walk_scan.specs.Number.{num_len, num_text, counted_of, pair_ok, pair_len, no_slash, upgrade_ok}
use Rattle.walk_scan.specs.CountLaws.{count-no, count-yes, count-is}
use Rattle.walk_scan.specs.NumberLaws.{scans-count, scans-pair, scans-upgrade, pair-text, cut-pair}
use Rattle.walk_scan.specs.NameLaws.{scans-port, scans-channel}
use Rattle.walk_scan.specs.Tail.{Tail, none, some, tail_of, after_of, added}
use Rattle.walk_scan.specs.TailLaws.{Scans, step-none, step-some, after-word}
use Rattle.walk_families.specs.Ends.{with_name, EndsAt, NoEnds}

-- ---- a tail with something in front
abbrev pub with_count : ℕ → Bool → Tail → Tail
with_count a x none = none
with_count a x (some v e) = some (carried v.first v.second a v.b) (x && e)

abbrev pub with_pair : ℕ → ℕ → Bool → Tail → Tail
with_pair a b x none = none
with_pair a b x (some v e) = some (carried v.first v.second a b) (x && e)

added-name : (n : Name) (c : List ℕ) (q : Place) (x : Tail) → added (name n) c q x ≡ with_name n q x
added-name n c q none = refl
added-name n c q (some v e) = refl

-- ---- an identifier of n bytes at `at`, by its scanner
module _ (i : Name) (ok : List ℕ → Bool) (len : List ℕ → ℕ) (scans : Scans (name i) ok len) (t : List ℕ) (at : ℕ) where
  name-none : ok (drop at t) ≡ false → (ps : List Part) → tail_of (name i ∷ ps) at (drop at t) ≡ none
  name-none h ps = step-none (name i) ok len scans ps at (drop at t) h

  name-some : ok (drop at t) ≡ true → (n : ℕ) → n ≡ len (drop at t) → (ps : List Part) → tail_of (name i ∷ ps) at (drop at t) ≡ with_name i (record { start = at; len = n }) (after_of ps (at + n) (drop (at + n) t))
  name-some h n e ps = step-some (name i) ok len scans ps at (drop at t) h ∙ rw (added-name i, e, drop-drop (len (drop at t)) at t)

-- those that have a rule
module _ (i : Name) (r : check.Rule) (scans : Scans (name i) (λ s. ltb 0 (rule_run r s)) (rule_run r)) (t : List ℕ) (at : ℕ) where
  pub rule-none : None ≡ nonzero (rule_run r (drop at t)) → (ps : List Part) → tail_of (name i ∷ ps) at (drop at t) ≡ none
  rule-none h ps = name-none i (λ s. ltb 0 (rule_run r s)) (rule_run r) scans t at (le-ltb 0 (rule_run r (drop at t)) (omega (arith, none-nonzero (rule_run r (drop at t)) h))) ps

  pub rule-some : (n : ℕ) → Some n ≡ nonzero (rule_run r (drop at t)) → (ps : List Part) → tail_of (name i ∷ ps) at (drop at t) ≡ with_name i (record { start = at; len = n }) (after_of ps (at + n) (drop (at + n) t))
  rule-some n h ps =
      let k = some-nonzero n (rule_run r (drop at t)) h in
      name-some i (λ s. ltb 0 (rule_run r s)) (rule_run r) scans t at (lt-ltb 0 (rule_run r (drop at t)) (omega (arith, k.0, k.1))) n k.0 ps

-- ---- U
module _ (t : List ℕ) (e : ℕ) (is : e ≡ 0 + run no_slash (drop 0 t)) where
  pub upgrade-none : upgrade_ok t ≡ false → (ps : List Part) → tail_of (name Upgrade ∷ ps) 0 t ≡ none
  upgrade-none h ps = step-none (name Upgrade) upgrade_ok (run no_slash) scans-upgrade ps 0 t h

  pub upgrade-some : upgrade_ok t ≡ true → (ps : List Part) → tail_of (name Upgrade ∷ ps) 0 t ≡ with_name Upgrade (record { start = 0; len = e }) (after_of ps e (drop e t))
  upgrade-some h ps =
      let i : 0 + run no_slash t ≡ e = omega (arith, is) in
      let j : run no_slash t ≡ e = omega (arith, is) in
      step-some (name Upgrade) upgrade_ok (run no_slash) scans-upgrade ps 0 t h ∙ rw (added-name Upgrade, i, j)

-- ---- a number
added-count : (c : List ℕ) (q : Place) (x : Tail) → added count c q x ≡ with_count (number_in c) (spelled count c) x
added-count c q none = refl
added-count c q (some v e) = refl

module _ (t : List ℕ) (at : ℕ) where
  pub count_none : None ≡ counted_of at (drop at t) → (ps : List Part) → tail_of (count ∷ ps) at (drop at t) ≡ none
  count_none h ps = step-none count (λ s. is_number (num_text s)) num_len scans-count ps at (drop at t) (count-no at (drop at t) h)

  pub count-some : (r : Counted) → Some r ≡ counted_of at (drop at t) → (ps : List Part) → tail_of (count ∷ ps) at (drop at t) ≡ with_count r.value r.plain (after_of ps r.end (drop r.end t))
  count-some r e ps =
      let k = count-is at (drop at t) r e in
      step-some count (λ s. is_number (num_text s)) num_len scans-count ps at (drop at t) (count-yes at (drop at t) r e)
      ∙ rw (added-count, k.0, k.1, k.2, drop-drop (num_len (drop at t)) at t)

-- ---- R-h
eqb-sum : (a b c d : ℕ) → a ≤ c → b ≤ d → eqb (a + suc b) (c + suc d) ≡ (eqb a c && eqb b d)
eqb-sum a b c d l m = go (eqb a c) refl (eqb b d) refl
  where
    go : (v : Bool) → eqb a c ≡ v → (w : Bool) → eqb b d ≡ w → eqb (a + suc b) (c + suc d) ≡ (v && w)
    go true e true f = eq-eqb (a + suc b) (c + suc d) (omega (arith, eqb-true a c e, eqb-true b d f))
    go true e false f = ne_eqb (a + suc b) (c + suc d) (λ x. eqb-false b d f (omega arith))
    go false e w f = ne_eqb (a + suc b) (c + suc d) (λ x. eqb-false a c e (omega arith))

added-pair : (a b : List ℕ) (q : Place) (x : Tail) → is_number a ≡ true → is_number b ≡ true
    → added pair (a ++ (45 ∷ b)) q x ≡ with_pair (number_in a) (number_in b) (spelled count a && spelled count b) x
added-pair a b q none f g = refl
added-pair a b q (some v e) f g =
    let l = (decimal-no-longer a (number_in a) (value-is _ f)).0 in
    let m = (decimal-no-longer b (number_in b) (value-is _ g)).0 in
    rw (cut-pair a b f g, length-append a (45 ∷ b), eqb-sum _ _ _ _ l m)

-- where R is no number
pub pair-first : (t : List ℕ) (at : ℕ) → None ≡ counted_of at (drop at t) → (ps : List Part) → tail_of (pair ∷ ps) at (drop at t) ≡ none
unfolding pair_ok
pair-first t at h ps = step-none pair pair_ok pair_len scans-pair ps at (drop at t) (rw (count-no at (drop at t) h))

module _ (t : List ℕ) (at : ℕ) (r : Counted) (e : Some r ≡ counted_of at (drop at t)) where
  pair_ok_lem : pair_ok (drop at t) ≡ (starts_with (45 ∷ []) (drop r.end t) && is_number (num_text (drop (r.end + 1) t)))
  unfolding pair_ok
  pair_ok_lem =
      let k = (count-is at (drop at t) r e).1 in
      let i : at + (num_len (drop at t) + 1) ≡ r.end + 1 = omega (arith, k) in
      rw (count-yes at (drop at t) r e, drop-drop (num_len (drop at t)) at t, ← k, drop-drop (num_len (drop at t) + 1) at t, i)

  pub pair-no_dash : starts_with (45 ∷ []) (drop r.end t) ≡ false → (ps : List Part) → tail_of (pair ∷ ps) at (drop at t) ≡ none
  pair-no_dash n ps = step-none pair pair_ok pair_len scans-pair ps at (drop at t) (pair_ok_lem ∙ rw n)

  module _ (dash : starts_with (45 ∷ []) (drop r.end t) ≡ true) where
    pub pair-second : None ≡ counted_of (r.end + 1) (drop (r.end + 1) t) → (ps : List Part) → tail_of (pair ∷ ps) at (drop at t) ≡ none
    pair-second h ps = step-none pair pair_ok pair_len scans-pair ps at (drop at t) (pair_ok_lem ∙ rw (dash, count-no (r.end + 1) (drop (r.end + 1) t) h))

    pub pair-some : (h : Counted) → Some h ≡ counted_of (r.end + 1) (drop (r.end + 1) t) → (ps : List Part) → tail_of (pair ∷ ps) at (drop at t) ≡ with_pair r.value h.value (r.plain && h.plain) (after_of ps h.end (drop h.end t))
    unfolding pair_len
    pair-some h f ps =
        let k = count-is at (drop at t) r e in
        let m = count-is (r.end + 1) (drop (r.end + 1) t) h f in
        let x = count-yes at (drop at t) r e in
        let i : at + (num_len (drop at t) + 1) ≡ r.end + 1 = omega (arith, k.1) in
        let s : drop (num_len (drop at t) + 1) (drop at t) ≡ drop (r.end + 1) t = drop-drop (num_len (drop at t) + 1) at t ∙ rw i in
        let y = count-yes (r.end + 1) (drop (r.end + 1) t) h f in
        let w : starts_with (45 ∷ []) (drop (num_len (drop at t)) (drop at t)) ≡ true = rw (drop-drop (num_len (drop at t)) at t, ← k.1) dash in
        let p : take (pair_len (drop at t)) (drop at t) ≡ num_text (drop at t) ++ (45 ∷ num_text (drop (r.end + 1) t)) = pair-text (drop at t) w ∙ rw s in
        let z : at + pair_len (drop at t) ≡ h.end = rw s (omega (arith, k.1, m.1)) in
        let ok : pair_ok (drop at t) ≡ true = pair_ok_lem ∙ rw (dash, y) in
        step-some pair pair_ok pair_len scans-pair ps at (drop at t) ok
        ∙ rw (drop-drop (pair_len (drop at t)) at t, z, p)
        (added-pair (num_text (drop at t)) (num_text (drop (r.end + 1) t)) (record { start = at; len = pair_len (drop at t) }) (after_of ps h.end (drop h.end t)) x y ∙ rw (k.0, k.2, m.0, m.2))

-- ---- `P/channels/H`, whatever follows
module _ (t : List ℕ) (at : ℕ) where
  pub ends-none : None ≡ nonzero (rule_run check.port (drop at t)) → NoEnds t at
  ends-none h ps = rule-none Port check.port scans-port t at h _

  module _ (p : ℕ) (e : Some p ≡ nonzero (rule_run check.port (drop at t))) (v : Bool) (w : v ≡ starts_with (bytes "/channels/") (drop (at + p) t)) where
    ends-word : (ps : List Part) → tail_of (name Port ∷ word (bytes "channels") ∷ name Channel ∷ ps) at (drop at t)
        ≡ with_name Port (record { start = at; len = p }) (cond v (tail_of (name Channel ∷ ps) (at + p + 10) (drop (at + p + 10) t)) none)
    unfolding every
    ends-word ps =
        let i : at + p + 8 + 2 ≡ at + p + 10 = omega arith in
        rule-some Port check.port scans-port t at p e (word (bytes "channels") ∷ name Channel ∷ ps)
        ∙ rw (after-word (bytes "channels") refl (name Channel) ps (at + p) (drop (at + p) t), w, drop-drop 10 (at + p) t, i)

    pub ends-no-word : v ≡ false → NoEnds t at
    ends-no-word h ps = ends-word ps ∙ rw h

    module _ (k : v ≡ true) where
      pub ends-no-channel : None ≡ nonzero (rule_run check.channel (drop (at + p + 10) t)) → NoEnds t at
      ends-no-channel h ps = ends-word ps ∙ rw (k, rule-none Channel check.channel scans-channel t (at + p + 10) h ps)

      pub ends-both : (h : ℕ) → Some h ≡ nonzero (rule_run check.channel (drop (at + p + 10) t)) → at + p + 10 + h ≤ length t → EndsAt t at (record { port = p; channel = h })
      ends-both h f l = record { within = l; both = λ ps. ends-word ps ∙ rw (k, rule-some Channel check.channel scans-channel t (at + p + 10) h f ps) }
