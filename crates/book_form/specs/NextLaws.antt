-- How the key of a slot stands to that of the next one: the owners first, and then the keys behind them.
-- Assumes nothing.
use Rattle.std.specs.Prelude.{◌≡◌, List, [], ◌∷◌, length, take, drop, get_or}
use Rattle.std.proofs.Math.Path.{refl}
use Rattle.std.proofs.Common.{sym, ap, ◌∙◌, arith, length-drop, drop-drop, length-take-le, take-suc, get_or-drop}
use Rattle.std.specs.declared.cmp.Ordering.{Ordering as Order}
use Rattle.std.specs.declared.cmp.Ordering.TheVariants.{Equal}
use Rattle.std.specs.Ordering.{nat_cmp}
use Prim.Native.Nat.{ℕ, ◌+◌, ◌<◌, ◌≤◌, Ordering, compare}
use Rattle.text.specs.Order.{cmp, then}
use Rattle.book_form.specs.declared.Version.{Version}
use Rattle.book_form.specs.declared.Version.TheVariants.{One, Two, Three}
use Rattle.book_form.specs.Counted.{counted_in, stored}
use Rattle.book_form.specs.Compare.{ordering_of}
use Rattle.book_form.specs.CompareLaws.{cmp_of_numbers, cmp-ahead, ahead-decides, ahead-same}
use Rattle.book_form.specs.Version.{owners_of, form_of}

-- the byte ahead
lead-byte : (b : List ℕ) (at : ℕ) → at < length b → take 1 (drop at b) ≡ get_or b at 0 ∷ []
lead-byte b at h =
    take-suc (drop at b) 0 0 (omega (arith, length-drop at b))
    ∙ ap (λ (n : ℕ). n ∷ []) (get_or-drop at b 0 0 ∙ ap (λ (n : ℕ). get_or b n 0) (let q : at + 0 ≡ at = omega arith in q))

cmp_of_bytes : (x y : ℕ) → nat_cmp x y ≡ ordering_of (cmp (x ∷ []) (y ∷ []))
unfolding cmp
cmp_of_bytes x y = cmp_of_numbers x y ∙ ap ordering_of (alone (compare x y))
  where
    alone : (o : Ordering) → o ≡ then o Ordering.eq
    alone Ordering.lt = refl
    alone Ordering.eq = refl
    alone Ordering.gt = refl

module _ (v : Version) (b : List ℕ) (at : ℕ) where
  abbrev W : ℕ
  W = (form_of v).width

  abbrev lead : ℕ
  lead = (owners_of v).lead

  abbrev owners : Ordering
  owners = cmp (take lead (drop at b)) (take lead (drop (at + W) b))

  abbrev keys : Ordering
  keys = cmp ((form_of v).record_of (drop at b)).0 ((form_of v).record_of (drop (at + W) b)).0

  -- by the version, as a match tells it
  pub owners-one : v ≡ One → Equal ≡ ordering_of owners
  unfolding cmp
  owners-one e = rw e refl

  pub owners-two : v ≡ Two → Equal ≡ ordering_of owners
  unfolding cmp
  owners-two e = rw e refl

  module _ (h : at + W + W ≤ length b) where
    pub three-room : v ≡ Three → at + 322 + 322 ≤ length b
    three-room e = rw e at h

    pub owners-three : v ≡ Three → (r : Order) → r ≡ nat_cmp (get_or b at 0) (get_or b (at + 322) 0) → r ≡ ordering_of owners
    owners-three e r er =
        let room = three-room e in
        er
        ∙ cmp_of_bytes (get_or b at 0) (get_or b (at + 322) 0)
        ∙ ap (λ (l : List ℕ). ordering_of (cmp l (get_or b (at + 322) 0 ∷ []))) (sym (lead-byte b at (omega arith)))
        ∙ ap (λ (l : List ℕ). ordering_of (cmp (take 1 (drop at b)) l)) (sym (lead-byte b (at + 322) (omega arith)))
        ∙ ap (λ (u : Version). ordering_of (cmp (take (owners_of u).lead (drop at b)) (take (owners_of u).lead (drop (at + (form_of u).width) b)))) (sym e)

    -- the keys, by the owners and by what stands behind them
    both : keys ≡ then owners (cmp (counted_in (drop lead (drop at b))) (counted_in (drop lead (drop (at + W) b))))
    both =
        cmp-ahead (take lead (drop at b)) (take lead (drop (at + W) b)) (counted_in (drop lead (drop at b))) (counted_in (drop lead (drop (at + W) b))) (length-take-le lead (drop at b) (omega (arith, length-drop at b)) ∙ sym (length-take-le lead (drop (at + W) b) (omega (arith, length-drop (at + W) b))))

    module _ (d : Order) (ed : d ≡ ordering_of owners) where
      pub next-owners : (d ≡ Equal → ⊥) → d ≡ ordering_of keys
      next-owners n = ahead-decides keys owners (cmp (counted_in (drop lead (drop at b))) (counted_in (drop lead (drop (at + W) b)))) d both ed n

      pub next-stored : d ≡ Equal → (l by : ℕ) → l ≡ lead → by ≡ W → (r : Order) → r ≡ ordering_of (cmp (stored b (at + l)) (stored b (at + l + by))) → r ≡ ordering_of keys
      next-stored e l by el eb r er =
          ahead-same keys owners (cmp (counted_in (drop lead (drop at b))) (counted_in (drop lead (drop (at + W) b)))) d r both ed e
          (er
          ∙ ap (λ (x : List ℕ). ordering_of (cmp (counted_in x) (stored b (at + l + by)))) (ap (λ (n : ℕ). drop (at + n) b) el ∙ sym (drop-drop lead at b))
          ∙ ap (λ (x : List ℕ). ordering_of (cmp (counted_in (drop lead (drop at b))) (counted_in x))) (ap (λ (n : ℕ). drop n b) (let q : at + l + by ≡ at + W + lead = omega arith in q) ∙ sym (drop-drop lead (at + W) b)))
