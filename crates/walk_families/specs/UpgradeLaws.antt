-- The exits of the walk of an upgrade path.
-- Assumes nothing.
use Rattle.std.specs.Prelude.{ℕ, suc, ◌+◌, ◌-◌, ◌≤◌, ◌<◌, ◌≡◌, List, [], ◌∷◌, Bool, true, false, cond, not, eqb, take, drop, get_or, Option, Some, None}
use Rattle.std.specs.Bool.{then_some}
use Rattle.std.proofs.Math.Path.{refl}
use Rattle.std.proofs.Common.{sym, ap, ◌∙◌, add-zero, length-drop, drop_of_length-le, drop-drop, get_or-drop}
use Rattle.std.proofs.Math.Bool.{and-true}
use native.Mathlib.Omega.{arith}
use Rattle.std.proofs.Math.ListN.{length}
use Rattle.std.proofs.lemmas.Bool.{not-false}
use Rattle.text.specs.Bytes.{bytes}
use Rattle.text.specs.Part.{every, ascii, starts_with, same}
use Rattle.text.specs.PartLaws.{starts-byte}
use Rattle.path.specs.declared.name.Name.TheVariants.{Upgrade}
use Rattle.path.specs.Text.{nowhere}
use Rattle.path.specs.Kinds.{Part, name, count, carried, kinds, kind18, kind19}
use Rattle.path.specs.Read.{read_first}
use Rattle.path.specs.Reads.{here, later}
use Rattle.path.specs.ReadLaws.{apart_all, kind-has}
use Rattle.walk_scan.specs.declared.number.Counted.{Counted}
use Rattle.walk_scan.specs.Number.{counted_of, no_slash, upgrade_ok}
use Rattle.walk_scan.specs.Run.{run}
use Rattle.walk_scan.specs.Tail.{none, some, tail_of, after_of}
use Rattle.walk_scan.specs.TailLaws.{after-slash, after_last, after-other, after-longer}
use Rattle.walk_families.specs.Flat.{flat, upgrades}
use Rattle.walk_families.specs.FlatLaws.{skip, found, none_left}
use Rattle.walk_families.specs.PieceLaws.{with_count, upgrade-none, upgrade-some, count_none, count-some}
use Rattle.walk_families.specs.Upgrade.{client_parts, cons_parts, UpgradeKind, client, cons, neither}
use Rattle.walk_families.specs.Client.{ended}

module _ (t : List ℕ) (q : ℕ) (l : q ≤ length t) where
  left_is : length (drop q t) ≡ length t - q
  left_is = length-drop q t

  long-client : (length t - q ≡ 15 → ⊥) → after_of client_parts q (drop q t) ≡ none
  unfolding every
  long-client h = after-longer (bytes "upgradedClient") refl q (drop q t) (λ x. h (omega (arith, x, left_is)))

  long-cons : (length t - q ≡ 18 → ⊥) → after_of cons_parts q (drop q t) ≡ none
  unfolding every
  long-cons h = after-longer (bytes "upgradedConsState") refl q (drop q t) (λ x. h (omega (arith, x, left_is)))

  pub kind-client : length t - q ≡ 15 → (v : Bool) → v ≡ starts_with (bytes "/upgradedClient") (drop q t) → (k : Option ℕ) → k ≡ then_some v 18 → UpgradeKind t q k
  unfolding every
  kind-client n true h k e\' = rw e\' (client (after_last (bytes "upgradedClient") refl q (drop q t) (sym h) (omega (arith, n, left_is))))
  kind-client n false h k e\' = rw e\' (neither (after-other (bytes "upgradedClient") refl q (drop q t) (sym h)) (long-cons (λ x. omega arith)))

  pub kind-cons : length t - q ≡ 18 → (v : Bool) → v ≡ starts_with (bytes "/upgradedConsState") (drop q t) → (k : Option ℕ) → k ≡ then_some v 19 → UpgradeKind t q k
  unfolding every
  kind-cons n true h k e\' = rw e\' (cons (after_last (bytes "upgradedConsState") refl q (drop q t) (sym h) (omega (arith, n, left_is))))
  kind-cons n false h k e\' = rw e\' (neither (long-client (λ x. omega arith)) (after-other (bytes "upgradedConsState") refl q (drop q t) (sym h)))

  pub kind-neither : (length t - q ≡ 15 → ⊥) → (length t - q ≡ 18 → ⊥) → UpgradeKind t q None
  kind-neither h k = neither (long-client h) (long-cons k)

-- ---- U ends at a slash, or at the end
run_at : (f : ℕ → Bool) (s : List ℕ) → run f s < length s → f (get_or s (run f s) 0) ≡ false
unfolding run
run_at f [] h = absurd (omega arith)
run_at f (b ∷ s) h = go (f b) refl h (run_at f s)
  where
    go : (v : Bool) → f b ≡ v → cond v (suc (run f s)) 0 < suc (length s) → (run f s < length s → f (get_or s (run f s) 0) ≡ false) → f (get_or (b ∷ s) (cond v (suc (run f s)) 0) 0) ≡ false
    go true e k ih = ih (omega arith)
    go false e k ih = e

upgrades-apart : apart_all upgrades ≡ true
unfolding same
upgrades-apart = refl

module _ (t : List ℕ) (e : ℕ) (is : e ≡ 0 + run no_slash (drop 0 t)) where
  -- whatever U is, where nothing is read after it
  dead : (ps : List Part) → after_of ps e (drop e t) ≡ none → tail_of (name Upgrade ∷ ps) 0 t ≡ none
  dead ps h = go (upgrade_ok t) refl
    where
      go : (v : Bool) → upgrade_ok t ≡ v → tail_of (name Upgrade ∷ ps) 0 t ≡ none
      go true k = upgrade-some t e is k ps ∙ rw h
      go false k = upgrade-none t e is k ps

  both-none : ((ps : List Part) → tail_of (name Upgrade ∷ count ∷ ps) 0 t ≡ none) → None ≡ flat t (read_first upgrades t)
  both-none h = sym (ap (flat t) (skip kind18 t (h client_parts) _ ∙ skip kind19 t (h cons_parts) []) ∙ none_left t)

  pub upgrade-end : e ≡ length t → None ≡ flat t (read_first upgrades t)
  unfolding starts_with
  upgrade-end h = let l : length t ≤ e = omega arith in both-none (λ ps. dead (count ∷ ps) (after-slash count ps e (drop e t) ∙ rw (drop_of_length-le t l)))

  module _ (some-slash : e < length t) where
    slash-at : starts_with (47 ∷ []) (drop e t) ≡ true
    slash-at =
        let i : e ≡ run no_slash t = omega (arith, is) in
        let k : not (eqb (get_or t e 0) 47) ≡ false = rw i (run_at no_slash t (omega (arith, i))) in
        starts-byte 47 (drop e t) (rw length-drop (omega arith)) ∙ rw (get_or-drop, add-zero) (not-false _ k)

    after-upgrade : (ps : List Part) → after_of (count ∷ ps) e (drop e t) ≡ tail_of (count ∷ ps) (e + 1) (drop (e + 1) t)
    after-upgrade ps = after-slash count ps e (drop e t) ∙ rw (slash-at, drop-drop 1 e t)

    pub upgrade-no_number : None ≡ counted_of (e + 1) (drop (e + 1) t) → None ≡ flat t (read_first upgrades t)
    upgrade-no_number h = both-none (λ ps. dead (count ∷ ps) (after-upgrade ps ∙ count_none t (e + 1) h ps))

    module _ (n : Counted) (f : Some n ≡ counted_of (e + 1) (drop (e + 1) t)) where
      after-number : (ps : List Part) → after_of (count ∷ ps) e (drop e t) ≡ with_count n.value n.plain (after_of ps n.end (drop n.end t))
      after-number ps = after-upgrade ps ∙ count-some t (e + 1) n f ps

      pub upgrade-no_kind : UpgradeKind t n.end None → None ≡ flat t (read_first upgrades t)
      upgrade-no_kind (neither x y) =
          sym (ap (flat t) (skip kind18 t (dead (count ∷ client_parts) (after-number client_parts ∙ rw x)) _ ∙ skip kind19 t (dead (count ∷ cons_parts) (after-number cons_parts ∙ rw y)) []) ∙ none_left t)

      module _ (v : Bool) (low : v ≡ ascii (take (e - 0) (drop 0 t))) where
        low-is : upgrade_ok t ≡ v
        low-is = let i : run no_slash t ≡ e - 0 = omega (arith, is) in rw (i, low)

        pub upgrade-high : v ≡ false → None ≡ flat t (read_first upgrades t)
        upgrade-high h = both-none (λ ps. upgrade-none t e is (low-is ∙ h) (count ∷ ps))

        reads : v ≡ true → (ps : List Part) → after_of ps n.end (drop n.end t) ≡ ended → tail_of (name Upgrade ∷ count ∷ ps) 0 t ≡ some (carried (record { start = 0; len = e }) nowhere n.value 0) n.plain
        reads h ps x = upgrade-some t e is (low-is ∙ h) (count ∷ ps) ∙ rw (after-number ps, x, and-true n.plain)

        pub upgrade_read : v ≡ true → (k : ℕ) → UpgradeKind t n.end (Some k) → Some (record { kind = k; exact = n.plain; first = record { start = 0; len = e }; second = nowhere; a = n.value; b = 0 }) ≡ flat t (read_first upgrades t)
        unfolding kinds
        upgrade_read h _ (client x) = found kind18 t {es = upgrades} here upgrades-apart (kind-has 18 (omega arith) (omega arith)) 18 (λ u. refl) _ n.plain (reads h client_parts x)
        upgrade_read h _ (cons x) = found kind19 t {es = upgrades} (later here) upgrades-apart (kind-has 19 (omega arith) (omega arith)) 19 (λ u. refl) _ n.plain (reads h cons_parts x)
