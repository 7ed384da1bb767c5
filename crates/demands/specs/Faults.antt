-- Request L3: what the calls that answer a place say by it. `hp_read` tells exactly when the number alone is wrong (`when-read` in
-- Demand2); here is that at most one kind is meant, and what the place of 17, 18 and 19 tells whoever mends the text.
-- Assumes nothing.
use Rattle.std.specs.Prelude.{ℕ, ◌+◌, ◌-◌, ◌≤◌, ◌≡◌, refl, true, false, List, length, drop}
use Rattle.std.proofs.Common.{sym, ap, subst, ◌∙◌, arith, length-take}
use Rattle.text.specs.declared.Fault.{Fault}
use Rattle.text.specs.Bytes.{bytes}
use Rattle.text.specs.Fault.{fault, has_place, Mends}
use Rattle.text.specs.Part.{every}
use Rattle.identifiers.specs.Check.{named_of, index_place, named_index_fault, fault_of}
use Rattle.identifiers.specs.FaultLaws.{index-mends, check-last_of, named-index-last_of}
use Rattle.path.specs.declared.Place.{Place}
use Rattle.path.specs.declared.Refusal.{Refusal}
use Rattle.path.specs.Text.{part_of}
use Rattle.path.specs.Number.{Marks}
use Rattle.path.proofs.WrongLaws.{wrong-marks}
use Rattle.path.specs.Read.{suits_kind}
use Rattle.path.specs.Read as paths
use Rattle.path.specs.Reads.{kind_at}
use Rattle.path.specs.ReadLaws.{suits-one}
use Rattle.wide.specs.Check.{named_index_fault_in, fault_in}
use Rattle.demands.specs.PathCalls.{ReadCall}
use Rattle.demands.specs.WideAlikeLaws.{wide-last_of, wide-index-last_of}
use Rattle.demands.specs.Demand2.{when_read}
use Rattle.hostpath.proofs.hp_validate_named_u64_index.Reads as hp-validate-named-u64-index
use Rattle.hostpath.proofs.hp_validate_connection_identifier.Reads as hp-validate-connection-identifier
use Rattle.hostpath.proofs.hp_validate_channel_identifier.Reads as hp-validate-channel-identifier
use Rattle.hostpath.proofs.hp_wide_validate_named_u64_index.Reads as hp-wide-validate-named-u64-index
use Rattle.hostpath.proofs.hp_wide_validate_connection_identifier.Reads as hp-wide-validate-connection-identifier
use Rattle.hostpath.proofs.hp_wide_validate_channel_identifier.Reads as hp-wide-validate-channel-identifier

-- ---- reading
-- at most one kind fits but for its numbers
pub one_kind : (t : List ℕ) (j k : ℕ) → 1 ≤ j → j ≤ 19 → 1 ≤ k → k ≤ 19 → suits_kind (kind_at j) t ≡ true → suits_kind (kind_at k) t ≡ true → j ≡ k
one_kind = suits-one

part_length_lem : (t : List ℕ) (p : Place) → length (part_of t p) ≤ p.len
part_length_lem t p = rw length-take (omega arith)

module _ (t out : List ℕ) (w : Refusal) (out₁ : List ℕ) (call : ReadCall t out (paths.as_fault w) out₁) (placed : has_place (paths.refusal_of w) ≡ true) where
  -- what the place tells: it lies in a number text or at its end, and says what to mend there
  pub read_marks : Marks t w
  read_marks = wrong-marks t w (((when_read t out (paths.as_fault w) out₁ call).bad_number w placed).0 refl).2

  -- so it lies in the text or at its end
  pub read_inside : paths.place_of w ≤ length t
  read_inside = let m = read_marks in omega (arith, m.inside, m.from, m.mends.inside, part_length_lem t m.number)

-- ---- the checks of a name and an index
-- what the place tells of the index behind the name and its dash
pub record IndexMarks (name s : List ℕ) (f : Fault) : Type 0 where
  pub from : length name + 1 ≤ f.place
  pub mends : Mends (drop (length name + 1) s) f.refusal (f.place - (length name + 1))

-- the answer f to the check of s as that name and an index: 17, 18 and 19 have a place that tells this, and all else has 0
pub record IndexSays (name s : List ℕ) (f : Fault) : Type 0 where
  pub marks : has_place f.refusal ≡ true → IndexMarks name s f
  pub placeless : has_place f.refusal ≡ false → f.place ≡ 0

-- of an answer f that a contract names by its number n: 17, 18 and 19 come from the index alone
module _ (name s : List ℕ) (n : ℕ) (last : has_place n ≡ true → n ≡ named_of name s) (f : Fault) (e : f ≡ fault n (index_place name s)) where
  marks_of : has_place f.refusal ≡ true → IndexMarks name s f
  marks_of h =
      let k : has_place n ≡ true = subst (λ (x : Fault). has_place x.refusal ≡ true) e h in
      let x = index-mends name s n k (last k) in
      subst (IndexMarks name s) (sym e) (record { from = x.0; mends = x.1 })

  placeless_of : has_place f.refusal ≡ false → f.place ≡ 0
  placeless_of h =
      let k : has_place n ≡ false = subst (λ (x : Fault). has_place x.refusal ≡ false) e h in
      ap (λ (x : Fault). x.place) e ∙ rw k

  says_of : IndexSays name s f
  says_of = record { marks = marks_of; placeless = placeless_of }

pub named_says : (κs : _) (a : _) (r : _) (s : _) → hp-validate-named-u64-index.Post κs a r s → IndexSays a.1.0.now a.0.now r
unfolding named_index_fault
named_says κs a r s p = says_of _ _ _ (named-index-last_of a.1.0.now a.0.now) r p

pub connection_says : (κs : _) (a : _) (r : _) (s : _) → hp-validate-connection-identifier.Post κs a r s → IndexSays (bytes "connection") a.0.now r
unfolding fault_of
connection_says κs a r s p = says_of _ _ _ (check-last_of (bytes "connection") a.0.now 10 64) r p

pub channel_says : (κs : _) (a : _) (r : _) (s : _) → hp-validate-channel-identifier.Post κs a r s → IndexSays (bytes "channel") a.0.now r
unfolding fault_of
channel_says κs a r s p = says_of _ _ _ (check-last_of (bytes "channel") a.0.now 8 64) r p

-- the same for letters beyond ASCII
pub wide_named_says : (κs : _) (a : _) (r : _) (s : _) → hp-wide-validate-named-u64-index.Post κs a r s → IndexSays a.1.0.now a.0.now r
unfolding named_index_fault_in
wide_named_says κs a r s p = says_of _ _ _ (wide-index-last_of a.1.0.now a.0.now) r p

pub wide_connection_says : (κs : _) (a : _) (r : _) (s : _) → hp-wide-validate-connection-identifier.Post κs a r s → IndexSays (bytes "connection") a.0.now r
unfolding fault_in every
wide_connection_says κs a r s p = says_of _ _ _ (wide-last_of (bytes "connection") a.0.now refl 10 64) r p

pub wide_channel_says : (κs : _) (a : _) (r : _) (s : _) → hp-wide-validate-channel-identifier.Post κs a r s → IndexSays (bytes "channel") a.0.now r
unfolding fault_in every
wide_channel_says κs a r s p = says_of _ _ _ (wide-last_of (bytes "channel") a.0.now refl 8 64) r p
