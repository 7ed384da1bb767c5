-- When rendering and the writing of a key are refused. Of rendering there is one law, over any checks of identifiers.
-- Assumes nothing.
use Rattle.std.specs.Prelude.{ℕ, zero, suc, ◌≤◌, ◌<◌, ◌↔◌, ◌⊎◌, Bool, cond, not, ◌&&◌, List, [], ◌∷◌, map, length}
use Rattle.std.proofs.Math.Path.{◌≡◌, refl, ap}
use Rattle.std.proofs.Common.{sym, ◌∙◌, ⊎_elim, arith}
use Rattle.std.proofs.Math.Logic.{inl, inr}
use Rattle.std.proofs.Math.Bool.{true, false}
use Rattle.std.proofs.Math.Option.{Option, none, some}
use Rattle.std.proofs.Math.Dec.{eqb, leb}
use Rattle.std.proofs.Math.ListN.{get_elem?}
use borrow.Author.Tests.{eqb-true, eqb-false, eq-eqb, ne_eqb, le-leb, lt-leb, leb-true, leb-false}
use Rattle.text.specs.Part.{every}
use Rattle.text.specs.PartLaws.{and_left, and_right}
use Rattle.text.specs.Put.{Wanted, refused, text, accepted, answer}
use Rattle.text.specs.declared.Written.{Written}
use Rattle.identifiers.specs.Check.{first, unless}
use Rattle.identifiers.specs.CheckLaws.{first_some, first-none}
use Rattle.path.specs.declared.name.Name.{Name}
use Rattle.path.specs.declared.name.Name.TheVariants.{Client, Connection, Port, Channel, Upgrade as UpgradePath}
use Rattle.path.specs.Text.{nowhere}
use Rattle.path.specs.Kinds.{Part, word, name, count, pair, Carried, carried, kinds, name_in}
use Rattle.path.specs.Read.{parts_of, render}
use Rattle.path.specs.Reads.{kind_at}
use Rattle.path.specs.ReadLaws.{has_both, kind-has, kind-parts, made-kind}
use Rattle.path.specs.View.{kind_of}
use Rattle.packet.specs.KeyLaws.{clash}
use Rattle.demands.specs.Demand2Laws.{iff_yes, iff-no}
use Rattle.demands.specs.Rendered.{IsKind, named, FirstOf, SecondOf, Slash, OfAName, FirstGets, SecondGets, FirstFine, SecondFine, Fine, WhenRenderedBy}

-- ---- the identifiers of a kind
abbrev fault_at : (Name → List ℕ → ℕ) → Option Name → List ℕ → ℕ
fault_at check none c = 0
fault_at check (some n) c = check n c

-- the first refusal of the identifiers that the parts name
abbrev pub names_by : (Name → List ℕ → ℕ) → List Part → Carried (List ℕ) → ℕ
names_by check [] v = 0
names_by check (word w ∷ ps) v = names_by check ps v
names_by check (name n ∷ ps) v = first (check n (name_in n v)) (names_by check ps v)
names_by check (count ∷ ps) v = names_by check ps v
names_by check (pair ∷ ps) v = names_by check ps v

-- no kind has more than two, and they stand in the first and in the second place
names-two : (check : Name → List ℕ → ℕ) (v : Carried (List ℕ))
    → map (λ e. names_by check e.parts v) kinds
    ≡ map (λ e. first (fault_at check (get_elem? (named e.parts) 0) v.first) (first (fault_at check (get_elem? (named e.parts) 1) v.second) 0)) kinds
unfolding kinds
names-two check v = refl

is_upgrade : Option Name → Bool
is_upgrade none = false
is_upgrade (some Client) = false
is_upgrade (some Connection) = false
is_upgrade (some Port) = false
is_upgrade (some Channel) = false
is_upgrade (some UpgradePath) = true

-- U is the first identifier of kinds 18 and 19, and no kind's second
first-upgrade : map (λ e. is_upgrade (get_elem? (named e.parts) 0)) kinds ≡ map (λ e. leb 18 (kind_of (e.make (carried nowhere nowhere 0 0)))) kinds
unfolding kinds is_upgrade
first-upgrade = refl

second-upgrade : map (λ e. is_upgrade (get_elem? (named e.parts) 1)) kinds ≡ map (λ e. false) kinds
unfolding kinds is_upgrade
second-upgrade = refl

abbrev Upgrade : ℕ → Type 0
Upgrade k = (k ≡ 18) ⊎ (k ≡ 19)

module _ (k : ℕ) (i : IsKind k) where
  is-upgrade : FirstOf k UpgradePath → Upgrade k
  unfolding is_upgrade
  is-upgrade h =
      let m = kind-has k i.0 i.1 in
      let t : is_upgrade (get_elem? (named (kind_at k).parts) 0) ≡ leb 18 k = has_both _ _ m first-upgrade ∙ ap (leb 18) (made-kind k i.0 i.1 (carried nowhere nowhere 0 0)) in
      let u : get_elem? (named (kind_at k).parts) 0 ≡ some UpgradePath = rw (kind-parts k i.0 i.1) at h in
      let l : 18 ≤ k = leb-true 18 k (sym t ∙ ap is_upgrade u) in
      go (eqb k 18) refl l
    where
      go : (t : Bool) → eqb k 18 ≡ t → 18 ≤ k → Upgrade k
      go true e l = inl (eqb-true k 18 e)
      go false e l = let n = eqb-false k 18 e in inr (let q : k ≡ 19 = omega (arith, n, i.1, l) in q)

  no_second : SecondOf k UpgradePath → ⊥
  unfolding is_upgrade
  no_second h =
      let t : is_upgrade (get_elem? (named (kind_at k).parts) 1) ≡ false = has_both _ _ (kind-has k i.0 i.1) second-upgrade in
      let u : get_elem? (named (kind_at k).parts) 1 ≡ some UpgradePath = rw (kind-parts k i.0 i.1) at h in
      let w : is_upgrade (get_elem? (named (kind_at k).parts) 1) ≡ true = ap is_upgrade u in
      clash (let z : ◌≡◌ {A = ℕ} 0 1 = cc in z)

upgrade-is : (k : ℕ) → Upgrade k → IsKind k × FirstOf k UpgradePath
unfolding parts_of kinds
upgrade-is k u = ⊎_elim (λ e. rw e ((omega arith, omega arith), refl)) (λ e. rw e ((omega arith, omega arith), refl)) u

-- ---- a text that holds a slash
slash-found : (c : List ℕ) → every (λ b. not (eqb b 47)) c ≡ false → Slash c
unfolding every
slash-found [] h = clash (let z : ◌≡◌ {A = ℕ} 0 1 = cc in z)
slash-found (b ∷ c) h = go (eqb b 47) refl h (slash-found c)
  where
    go : (t : Bool) → eqb b 47 ≡ t → (not t && every (λ b. not (eqb b 47)) c) ≡ false → (every (λ b. not (eqb b 47)) c ≡ false → Slash c) → Slash (b ∷ c)
    go true e k f = (0, ap some (eqb-true b 47 e))
    go false e k f = let r = f k in (suc r.0, r.1)

found-slash : (c : List ℕ) (i : ℕ) → get_elem? c i ≡ some 47 → every (λ b. not (eqb b 47)) c ≡ false
unfolding every
found-slash [] i e = clash (let z : ◌≡◌ {A = ℕ} 0 1 = cc in z)
found-slash (b ∷ c) zero e = let q : b ≡ 47 = cc in rw (eq-eqb b 47 q)
found-slash (b ∷ c) (suc i) e = go (not (eqb b 47)) (found-slash c i e)
  where
    go : (t : Bool) → every (λ b. not (eqb b 47)) c ≡ false → (t && every (λ b. not (eqb b 47)) c) ≡ false
    go true h = h
    go false h = refl

-- ---- what is asked of the checks
pub record Apart (r : ℕ) : Type 0 where
  pub kind : r ≡ 14 → ⊥
  pub length : r ≡ 1 → ⊥
  pub room : r ≡ 4 → ⊥

pub record Checks (takes : List ℕ → Bool) (other : ℕ) (check : Name → List ℕ → ℕ) : Type 0 where
  pub apart : (n : Name) (c : List ℕ) → Apart (check n c)
  pub other_name : OfAName other
  pub not_taken : (n : Name) (c : List ℕ) → (check n c ≡ other) ↔ (takes c ≡ false)
  pub slash-only : (n : Name) (c : List ℕ) → check n c ≡ 13 → (n ≡ UpgradePath) × (takes c ≡ true) × (every (λ b. not (eqb b 47)) c ≡ false)
  pub slash-is : (c : List ℕ) → takes c ≡ true → every (λ b. not (eqb b 47)) c ≡ false → check UpgradePath c ≡ 13

module _ (takes : List ℕ → Bool) (other : ℕ) (check : Name → List ℕ → ℕ) (is : Checks takes other check) where
  -- ---- an identifier that a kind may have
  module _ (c : List ℕ) where
    gets : (o : Option Name) (r : ℕ) → (r ≡ 0 → ⊥) → fault_at check o c ≡ r → (n : Name) × (o ≡ some n) × (check n c ≡ r)
    gets none r nz e = absurd (nz (sym e))
    gets (some n) r nz e = (n, refl, e)

    got : (o : Option Name) (r : ℕ) → ((n : Name) × (o ≡ some n) × (check n c ≡ r)) → fault_at check o c ≡ r
    got o r q = ap (λ (y : Option Name). fault_at check y c) q.1 ∙ q.2

    fine : (o : Option Name) → fault_at check o c ≡ 0 → (n : Name) → o ≡ some n → check n c ≡ 0
    fine o h n e = sym (ap (λ (y : Option Name). fault_at check y c) e) ∙ h

    fined : (o : Option Name) → ((n : Name) → o ≡ some n → check n c ≡ 0) → fault_at check o c ≡ 0
    fined none f = refl
    fined (some n) f = f n refl

    apart-at : (o : Option Name) → Apart (fault_at check o c)
    apart-at none = record { kind = λ e. omega (arith, e); length = λ e. omega (arith, e); room = λ e. omega (arith, e) }
    apart-at (some n) = is.apart n c

  module _ (k : ℕ) (v : Carried (List ℕ)) (out : List ℕ) where
    abbrev whole : List ℕ
    whole = render (parts_of k) v

    abbrev refusals : ℕ
    refusals = first (names_by check (parts_of k) v) (unless 1 (leb (length whole) 4096))

    abbrev wanted : Wanted
    wanted = cond (leb 1 k && leb k 19) (accepted refusals whole) (refused 14)

    -- the refusal of the first identifier, and of the second
    abbrev a : ℕ
    a = fault_at check (get_elem? (named (parts_of k)) 0) v.first

    abbrev b : ℕ
    b = fault_at check (get_elem? (named (parts_of k)) 1) v.second

    names_are : IsKind k → names_by check (parts_of k) v ≡ first a (first b 0)
    names_are h = rw (kind-parts k h.0 h.1) (has_both _ _ (kind-has k h.0 h.1) (names-two check v))

    module _ (x : Written) (e : x ≡ answer wanted (length out)) where
      no-kind_way : (leb 1 k && leb k 19) ≡ false → x.refusal ≡ 14
      unfolding answer
      no-kind_way h = ap (λ (y : Written). y.refusal) e ∙ rw h

      refused_way : (leb 1 k && leb k 19) ≡ true → (refusals ≡ 0 → ⊥) → x.refusal ≡ refusals
      unfolding answer
      refused_way h n = ap (λ (y : Written). y.refusal) e ∙ rw (h, ne_eqb refusals 0 n)

      text_way : (leb 1 k && leb k 19) ≡ true → refusals ≡ 0 → x.refusal ≡ (answer (text whole) (length out)).refusal
      text_way h n = ap (λ (y : Written). y.refusal) e ∙ rw (h, eq-eqb refusals 0 n)

    -- the rows that say all: the two of 2 and of 13 are of `names`
    record Rows (x : Written) : Type 0 where
      pub kind : (x.refusal ≡ 14) ↔ (IsKind k → ⊥)
      pub names : (r : ℕ) → OfAName r → (x.refusal ≡ r) ↔ (IsKind k × (FirstGets check k v r ⊎ (FirstFine check k v × SecondGets check k v r)))
      pub long : (x.refusal ≡ 1) ↔ (Fine check k v × (4096 < length whole))
      pub room : (x.refusal ≡ 4) ↔ (Fine check k v × (length whole ≤ 4096) × (length out < length whole))
      pub done : (x.refusal ≡ 0) ↔ (Fine check k v × (length whole ≤ 4096) × (length whole ≤ length out))

    kind_is : (leb 1 k && leb k 19) ≡ true → IsKind k
    kind_is h = (leb-true 1 k (and_left (leb 1 k) (leb k 19) h), leb-true k 19 (and_right (leb 1 k) (leb k 19) h))

    module _ (x : Written) (e : x ≡ answer wanted (length out)) where
      none_way : (leb 1 k && leb k 19) ≡ false → Rows x
      none_way h =
          let m : x.refusal ≡ 14 = no-kind_way x e h in
          let no : IsKind k → ⊥ = λ i. let q : (leb 1 k && leb k 19) ≡ true = rw (le-leb 1 k i.0, le-leb k 19 i.1) in clash (let z : ◌≡◌ {A = ℕ} 0 1 = cc in z) in
          record {
            kind = iff_yes m no;
            names = λ r o. iff-no (λ q. o.no_kind (sym q ∙ m)) (λ q. no q.0);
            long = iff-no (λ q. omega arith) (λ q. no q.0.0);
            room = iff-no (λ q. omega arith) (λ q. no q.0.0);
            done = iff-no (λ q. omega arith) (λ q. no q.0.0);
          }

      module _ (h : (leb 1 k && leb k 19) ≡ true) (i : IsKind k) where
        first_way : (a ≡ 0 → ⊥) → Rows x
        first_way nz =
            let u : ℕ = unless 1 (leb (length whole) 4096) in
            let f : refusals ≡ a = ap (λ (y : ℕ). first y u) (names_are i ∙ first_some a (first b 0) nz) ∙ first_some a u nz in
            let m : x.refusal ≡ a = refused_way x e h (λ z. nz (sym f ∙ z)) ∙ f in
            let far : Apart a = apart-at v.first (get_elem? (named (parts_of k)) 0) in
            let bad : FirstFine check k v → ⊥ = λ g. nz (fined v.first (get_elem? (named (parts_of k)) 0) g) in
            record {
              kind = iff-no (λ q. far.kind (sym m ∙ q)) (λ q. q i);
              names = λ r o. (λ q. (i, inl (gets v.first (get_elem? (named (parts_of k)) 0) r o.no_zero (sym m ∙ q))), λ q. m ∙ ⊎_elim (λ g. got v.first (get_elem? (named (parts_of k)) 0) r g) (λ g. absurd (bad g.0)) q.1);
              long = iff-no (λ q. far.length (sym m ∙ q)) (λ q. bad q.0.1);
              room = iff-no (λ q. far.room (sym m ∙ q)) (λ q. bad q.0.1);
              done = iff-no (λ q. nz (sym m ∙ q)) (λ q. bad q.0.1);
            }

        module _ (za : a ≡ 0) where
          second_way : (b ≡ 0 → ⊥) → Rows x
          second_way nz =
              let u : ℕ = unless 1 (leb (length whole) 4096) in
              let f : refusals ≡ b = ap (λ (y : ℕ). first y u) (names_are i ∙ first-none a (first b 0) za ∙ first_some b 0 nz) ∙ first_some b u nz in
              let m : x.refusal ≡ b = refused_way x e h (λ z. nz (sym f ∙ z)) ∙ f in
              let far : Apart b = apart-at v.second (get_elem? (named (parts_of k)) 1) in
              let bad : SecondFine check k v → ⊥ = λ g. nz (fined v.second (get_elem? (named (parts_of k)) 1) g) in
              record {
                kind = iff-no (λ q. far.kind (sym m ∙ q)) (λ q. q i);
                names = λ r o. (
                  λ q. (i, inr (fine v.first (get_elem? (named (parts_of k)) 0) za, gets v.second (get_elem? (named (parts_of k)) 1) r o.no_zero (sym m ∙ q))),
                  λ q. ⊎_elim (λ g. absurd (o.no_zero (sym (got v.first (get_elem? (named (parts_of k)) 0) r g) ∙ za))) (λ g. m ∙ got v.second (get_elem? (named (parts_of k)) 1) r g.1) q.1,
                );
                long = iff-no (λ q. far.length (sym m ∙ q)) (λ q. bad q.0.2);
                room = iff-no (λ q. far.room (sym m ∙ q)) (λ q. bad q.0.2);
                done = iff-no (λ q. nz (sym m ∙ q)) (λ q. bad q.0.2);
              }

          -- every identifier is accepted
          module _ (zb : b ≡ 0) where
            all_fine : Fine check k v
            all_fine = (i, fine v.first (get_elem? (named (parts_of k)) 0) za, fine v.second (get_elem? (named (parts_of k)) 1) zb)

            none_gets : (r : ℕ) → OfAName r → FirstGets check k v r ⊎ (FirstFine check k v × SecondGets check k v r) → ⊥
            none_gets r o q =
                ⊎_elim (λ g. o.no_zero (sym (got v.first (get_elem? (named (parts_of k)) 0) r g) ∙ za)) (λ g. o.no_zero (sym (got v.second (get_elem? (named (parts_of k)) 1) r g.1) ∙ zb)) q

            no_names : refusals ≡ unless 1 (leb (length whole) 4096)
            no_names = ap (λ (y : ℕ). first y (unless 1 (leb (length whole) 4096))) (names_are i ∙ first-none a (first b 0) za ∙ first-none b 0 zb)

            long_way : 4096 < length whole → Rows x
            long_way l =
                let f : refusals ≡ 1 = no_names ∙ rw (lt-leb (length whole) 4096 l) in
                let m : x.refusal ≡ 1 = refused_way x e h (λ z. omega (arith, f, z)) ∙ f in
                record {
                  kind = iff-no (λ q. omega arith) (λ q. q i);
                  names = λ r o. iff-no (λ q. o.no_length (sym q ∙ m)) (λ q. none_gets r o q.1);
                  long = iff_yes m (all_fine, l);
                  room = iff-no (λ q. omega arith) (λ q. omega (arith, l, q.1));
                  done = iff-no (λ q. omega arith) (λ q. omega (arith, l, q.1));
                }

            short_way : length whole ≤ 4096 → Rows x
            unfolding answer
            short_way s = go (leb (length whole) (length out)) refl
              where
                number : x.refusal ≡ (answer (text whole) (length out)).refusal
                number = text_way x e h (no_names ∙ rw (le-leb (length whole) 4096 s))

                go : (t : Bool) → leb (length whole) (length out) ≡ t → Rows x
                go true t =
                    let m : x.refusal ≡ 0 = number ∙ rw t in
                    record {
                      kind = iff-no (λ q. omega arith) (λ q. q i);
                      names = λ r o. iff-no (λ q. o.no_zero (sym q ∙ m)) (λ q. none_gets r o q.1);
                      long = iff-no (λ q. omega arith) (λ q. omega (arith, s, q.1));
                      room = iff-no (λ q. omega arith) (λ q. omega (arith, leb-true (length whole) (length out) t, q.2));
                      done = iff_yes m (all_fine, s, leb-true (length whole) (length out) t);
                    }
                go false t =
                    let m : x.refusal ≡ 4 = number ∙ rw t in
                    record {
                      kind = iff-no (λ q. omega arith) (λ q. q i);
                      names = λ r o. iff-no (λ q. o.no_room_when (sym q ∙ m)) (λ q. none_gets r o q.1);
                      long = iff-no (λ q. omega arith) (λ q. omega (arith, s, q.1));
                      room = iff_yes m (all_fine, s, leb-false (length whole) (length out) t);
                      done = iff-no (λ q. omega arith) (λ q. omega (arith, leb-false (length whole) (length out) t, q.2));
                    }

      rows : Rows x
      rows = go (leb 1 k && leb k 19) refl (eqb a 0) refl (eqb b 0) refl (leb (length whole) 4096) refl
        where
          go : (t : Bool) → (leb 1 k && leb k 19) ≡ t → (p : Bool) → eqb a 0 ≡ p → (q : Bool) → eqb b 0 ≡ q → (s : Bool) → leb (length whole) 4096 ≡ s → Rows x
          go false h p ea q eb s es = none_way h
          go true h false ea q eb s es = first_way h (kind_is h) (eqb-false a 0 ea)
          go true h true ea false eb s es = second_way h (kind_is h) (eqb-true a 0 ea) (eqb-false b 0 eb)
          go true h true ea true eb false es = long_way h (kind_is h) (eqb-true a 0 ea) (eqb-true b 0 eb) (leb-false (length whole) 4096 es)
          go true h true ea true eb true es = short_way h (kind_is h) (eqb-true a 0 ea) (eqb-true b 0 eb) (leb-true (length whole) 4096 es)

      segment-there : x.refusal ≡ 13 → Upgrade k × (takes v.first ≡ true) × Slash v.first
      segment-there q =
          let g = (rows.names 13 (record { no_zero = λ e. omega (arith, e); no_kind = λ e. omega (arith, e); no_length = λ e. omega (arith, e); no_room_when = λ e. omega (arith, e) })).0 q in
          ⊎_elim (λ f. by_first g.0 f) (λ f. absurd (by-second g.0 f.1)) g.1
        where
          by_first : IsKind k → FirstGets check k v 13 → Upgrade k × (takes v.first ≡ true) × Slash v.first
          by_first i f =
              let s = is.slash-only f.0 v.first f.2 in
              (is-upgrade k i (f.1 ∙ ap some s.0), s.1, slash-found v.first s.2)

          by-second : IsKind k → SecondGets check k v 13 → ⊥
          by-second i f = no_second k i (f.1 ∙ ap some (is.slash-only f.0 v.second f.2).0)

      segment-back : Upgrade k × (takes v.first ≡ true) × Slash v.first → x.refusal ≡ 13
      segment-back q =
          let u = upgrade-is k q.0 in
          (rows.names 13 (record { no_zero = λ e. omega (arith, e); no_kind = λ e. omega (arith, e); no_length = λ e. omega (arith, e); no_room_when = λ e. omega (arith, e) })).1
          (u.0, inl (UpgradePath, u.1, is.slash-is v.first q.1 (found-slash v.first q.2.0 q.2.1)))

      pub when_rendered : WhenRenderedBy check k v takes other out x
      when_rendered =
          let w = rows.names other is.other_name in
          record {
            bad_kind_when = rows.kind;
            bad_name = rows.names;
            not_taken = (
              λ q. let g = w.0 q in (g.0, ⊎_elim (λ f. inl (f.0, f.1, (is.not_taken f.0 v.first).0 f.2)) (λ f. inr (f.0, (f.1.0, f.1.1, (is.not_taken f.1.0 v.second).0 f.1.2))) g.1),
              λ q. w.1 (q.0, ⊎_elim (λ f. inl (f.0, f.1, (is.not_taken f.0 v.first).1 f.2)) (λ f. inr (f.0, (f.1.0, f.1.1, (is.not_taken f.1.0 v.second).1 f.1.2))) q.1),
            );
            bad_segment_when = (segment-there, segment-back);
            too_long_when = rows.long;
            no_room_when = rows.room;
            done = rows.done;
          }
