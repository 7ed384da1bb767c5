-- What the calls on iteration keys come to, by the definitions that their contracts cite.
-- Assumes nothing.
use Rattle.std.specs.Prelude.{ℕ, ◌<◌, ◌^◌, ◌≡◌, refl, ◌↔◌, Bool, true, false, List, [], ◌∷◌, take, Result, Ok, Err}
use Rattle.std.proofs.Common.{sym, ap, subst, ◌∙◌, arith}
use Rattle.std.proofs.Math.Option.{Option, none, some}
use Rattle.text.specs.Number.{Bytes}
use Rattle.text.specs.declared.Written.{Written}
use Rattle.path.specs.declared.Pair.{Pair}
use Rattle.path.specs.declared.Revision.{Revision}
use Rattle.path.specs.Pair.{pair}
use Rattle.iteration.specs.Key.{iteration_key, key_revision, answered, pair_of}
use Rattle.iteration.specs.ReadLaws.{read-written, written_read, key-counted}
use Rattle.iteration.specs.Block.{rising, block_of, scanned, Among, Nearest}
use Rattle.iteration.specs.BlockLaws.{parts}
use Rattle.iteration.specs.ScanLaws.{block_read, block_back, block-counted}
use Rattle.packet.specs.KeyLaws.{clash}
use Rattle.demands.specs.Demand2Laws.{iff_yes, iff-no}
use Rattle.demands.specs.Scanned.{IsKey, WhenKey, Block, WhenScanned}
use Rattle.demands.specs.Shape.{Listed, AllZero, Demand1}
use Rattle.demands.specs.Written.{Done}

number : {x y : Pair} → x ≡ y → x.refusal ≡ y.refusal
number e = ap (λ (p : Pair). p.refusal) e

-- ---- one key
pub read_back : (n h : ℕ) → n < 2 ^ 64 → h < 2 ^ 64 → (x : Written) (out : List ℕ) → Done (iteration_key n h) x out → (y : Pair) → y ≡ pair_of (answered 15 (key_revision (take x.length out))) → y ≡ pair 0 n h
read_back n h a b x out d y e = rw (d.shown, read-written n h a b) at e

module _ (k : List ℕ) (b : Bytes k) (y : Pair) (e : y ≡ pair_of (answered 15 (key_revision k))) where
  pub write-back : y.refusal ≡ 0 → (x : Written) (out : List ℕ) → Done (iteration_key y.number y.height) x out → take x.length out ≡ k
  write-back z x out d = d.shown ∙ go (key_revision k) refl
    where
      go : (o : Option Revision) → key_revision k ≡ o → iteration_key y.number y.height ≡ k
      go none f = let q = number (rw f at e) in absurd (let w : ⊥ = omega arith in w)
      go (some p) f = rw (rw f at e) (written_read k p b f)

  pub when_key : WhenKey k y.refusal
  when_key = go (key_revision k) refl
    where
      go : (o : Option Revision) → key_revision k ≡ o → WhenKey k y.refusal
      go (some p) f =
          let q = number (rw f at e) in
          let c = key-counted k p b f in
          let is : IsKey k = (p.number.0, p.height.0, c.0, c.1, sym (written_read k p b f)) in
          record { done = iff_yes q is; bad_key = iff-no (λ w. omega arith) (λ w. w is) }
      go none f =
          let q = number (rw f at e) in
          let not : IsKey k → ⊥ = λ w. let r = rw (← w.4) at (read-written w.0 w.1 w.2 w.3) in clash (let z : ◌≡◌ {A = ℕ} 0 1 = cc in z) in
          record { done = iff-no (λ w. omega arith) not; bad_key = iff_yes q not }

-- ---- blocks
pub blocks : (b : List ℕ) (ps : List Revision) → Bytes b → (block_of b ≡ some ps) ↔ Block b ps
blocks b ps h = (
  λ e. record { counted = block-counted b ps h e; order = (parts b ps e).order; bytes = sym (block_back b ps h e) },
  λ x. ap block_of x.bytes ∙ block_read ps x.order x.counted,
)

module _ (f : List Revision → Option Revision) (side : Revision → Bool) (nearer : Revision → Revision → Bool)
    (near : (ps : List Revision) (q : Revision) → rising none ps ≡ true → f ps ≡ some q → Nearest side nearer ps q) (all : (ps : List Revision) → f ps ≡ none → (r : Revision) → Among r ps → side r ≡ false)
    (b : List ℕ) (y : Pair) (e : y ≡ pair_of (scanned f (block_of b))) where
  pub when-scanned : WhenScanned side nearer b y
  when-scanned = go (block_of b) refl
    where
      apart : (qs : List Revision) → block_of b ≡ some qs → block_of b ≡ none → ⊥
      apart qs x z = clash (let w : ◌≡◌ {A = ℕ} 0 1 = cc in w)

      same : (ps qs : List Revision) → block_of b ≡ some qs → block_of b ≡ some ps → qs ≡ ps
      same ps qs x z = cc

      within : (qs : List Revision) → block_of b ≡ some qs → y ≡ pair_of (answered 12 (f qs)) → (o : Option Revision) → f qs ≡ o → WhenScanned side nearer b y
      within qs x w none g =
          let q = number (rw g at w) in
          record {
            bad_block_when = iff-no (λ z. omega arith) (apart qs x);
            absent = λ ps z. iff_yes q (λ r m. all qs g r (rw (← same ps qs x z) at m));
            found = λ ps z h. absurd (let v : ⊥ = omega arith in v);
          }
      within qs x w (some p) g =
          let q = number (rw g at w) in
          let n = near qs p (parts b qs x).order g in
          record {
            bad_block_when = iff-no (λ z. omega arith) (apart qs x);
            absent = λ ps z. iff-no (λ h. omega arith) (λ h. let u = h p (rw (same ps qs x z) at n.among) in let v = n.there in clash (let w : ◌≡◌ {A = ℕ} 0 1 = cc in w));
            found = λ ps z h. rw (← same ps qs x z, rw g at w) n;
          }

      go : (o : Option (List Revision)) → block_of b ≡ o → WhenScanned side nearer b y
      go none x =
          let q = number (rw x at e) in
          record {
            bad_block_when = iff_yes q x;
            absent = λ ps z. absurd (apart ps z x);
            found = λ ps z. absurd (apart ps z x);
          }
      go (some qs) x = within qs x (rw x at e) (f qs) refl

-- ---- demand 1
abbrev pub Refuses : List ℕ → Result Revision ℕ → Type 0
Refuses ns (Ok p) = Unit {0}
Refuses ns (Err n) = Listed ns n

pub key-refuses : (x : Option Revision) → Refuses (15 ∷ []) (answered 15 x)
key-refuses none = refl
key-refuses (some p) = tt

pub scan-refuses : (f : List Revision → Option Revision) (x : Option (List Revision)) → Refuses (16 ∷ 12 ∷ []) (scanned f x)
scan-refuses f none = refl
scan-refuses f (some ps) = go (f ps)
  where
    go : (y : Option Revision) → Refuses (16 ∷ 12 ∷ []) (answered 12 y)
    go none = refl
    go (some p) = tt

-- a call that answers a pair and is lent nothing to write
module _ {L : Type 0} {A R S : L → Type 0} {Pre : (κs : L) → A κs → Type 0} {Post : (κs : L) → A κs → R κs → S κs → Type 0} (listed : List ℕ) where
  pub pairs : Listed listed 0 → ((κs : L) (a : A κs) → Pre κs a) → (given : (κs : L) → R κs → Pair) (answers : (κs : L) → A κs → Result Revision ℕ) → ((κs : L) (a : A κs) → Refuses listed (answers κs a))
      → ((κs : L) (a : A κs) (r : R κs) (s : S κs) → Post κs a r s → given κs r ≡ pair_of (answers κs a))
      → Demand1 Pre Post listed (λ κs r. (given κs r).refusal) (λ κs r. (given κs r).number ∷ (given κs r).height ∷ []) (λ κs a. []) (λ κs s. [])
  pairs zero accepts given answers numbers says =
      record {
        accepts = accepts;
        numbered = λ κs a r s p. subst (λ (x : Pair). Listed listed x.refusal) (sym (says κs a r s p)) (number_of (answers κs a) (numbers κs a));
        nothing_else = λ κs a r s p. subst (λ (x : Pair). (x.refusal ≡ 0 → ⊥) → AllZero (x.number ∷ x.height ∷ [])) (sym (says κs a r s p)) (zeros (answers κs a));
        keeps = λ κs a r s p h. refl;
      }
    where
      number_of : (x : Result Revision ℕ) → Refuses listed x → Listed listed (pair_of x).refusal
      number_of (Ok p) h = zero
      number_of (Err n) h = h

      zeros : (x : Result Revision ℕ) → ((pair_of x).refusal ≡ 0 → ⊥) → AllZero ((pair_of x).number ∷ (pair_of x).height ∷ [])
      zeros (Ok p) h = absurd (h refl)
      zeros (Err n) h = (refl, (refl, tt))
