-- The scanner of an identifier: the run of identifier bytes that its rule accepts.
-- Assumes nothing.
use Rattle.std.specs.Prelude.{ℕ, ◌≤◌, ◌<◌, ◌≡◌, List, ◌++◌, Bool, ltb, take}
use Rattle.std.proofs.Math.Path.{refl, sym}
use Rattle.std.proofs.Common.{◌∙◌, arith, length-take, take_at}
use Rattle.std.proofs.Math.Bool.{true, false, cond}
use Rattle.std.proofs.Math.Dec.{eqb}
use Rattle.std.proofs.Math.ListN.{length}
use borrow.Author.Tests.{eq-eqb, ne_eqb, eqb-true, lt-ltb, ltb-true}
use Rattle.identifiers.specs.Check.{Rule, plain, check_of, identifier_byte, among}
use Rattle.identifiers.specs.Check as check
use Rattle.identifiers.specs.CheckLaws.{accepted-bytes, accepted-length, accepted-by}
use Rattle.path.specs.Kinds.{name}
use Rattle.path.specs.TextLaws.{without}
use Rattle.path.specs.declared.name.Name.{Name}
use Rattle.path.specs.declared.name.Name.TheVariants.{Client, Connection, Port, Channel}
use Rattle.path.specs.Read.{fits, name_fault}
use Rattle.walk_scan.specs.Run.{run, rule_run, name_run}
use Rattle.walk_scan.specs.RunLaws.{run-within, run-every, run-to, run-clear}
use Rattle.walk_scan.specs.Tail.{Stops}
use Rattle.walk_scan.specs.TailLaws.{Scans}

-- a slash is no identifier byte
no_slash : identifier_byte 47 ≡ false
unfolding identifier_byte among
no_slash = refl

none-there : (v : Bool) (n : ℕ) → n ≡ 0 → cond v n 0 ≡ 0
none-there true n h = h
none-there false n h = refl

module _ (r : Rule) (s : List ℕ) where
  -- where no byte runs there is none
  pub rule_empty : run identifier_byte s ≡ 0 → rule_run r s ≡ 0
  unfolding rule_run
  rule_empty h = none-there (eqb (check_of r (take (run identifier_byte s) s)) 0) _ h

  pub rule_in : check_of r (take (run identifier_byte s) s) ≡ 0 → rule_run r s ≡ run identifier_byte s
  unfolding rule_run
  rule_in h = rw (eq-eqb (check_of r (take (run identifier_byte s) s)) 0 h)

  pub rule-out : (check_of r (take (run identifier_byte s) s) ≡ 0 → ⊥) → rule_run r s ≡ 0
  unfolding rule_run
  rule-out h = rw (ne_eqb (check_of r (take (run identifier_byte s) s)) 0 h)

  run_length : length (take (run identifier_byte s) s) ≡ run identifier_byte s
  run_length = simp length-take (omega (arith, run-within identifier_byte s))

  pub rule-less : run identifier_byte s < r.least → rule_run r s ≡ 0
  rule-less h = rule-out (λ e. omega (arith, (accepted-length r (take (run identifier_byte s) s) e).0, run_length))

  pub rule-more : r.most < run identifier_byte s → rule_run r s ≡ 0
  rule-more h = rule-out (λ e. omega (arith, (accepted-length r (take (run identifier_byte s) s) e).1, run_length))

  -- what a run that the rule accepts is
  run-taken : 0 < rule_run r s → (rule_run r s ≤ length s) × (without 47 (take (rule_run r s) s) ≡ true) × (check_of r (take (rule_run r s) s) ≡ 0)
  unfolding rule_run
  run-taken h = go (eqb (check_of r (take (run identifier_byte s) s)) 0) refl h
    where
      go : (v : Bool) → eqb (check_of r (take (run identifier_byte s) s)) 0 ≡ v → 0 < cond v (run identifier_byte s) 0
          → (cond v (run identifier_byte s) 0 ≤ length s) × (without 47 (take (cond v (run identifier_byte s) 0) s) ≡ true) × (check_of r (take (cond v (run identifier_byte s) 0) s) ≡ 0)
      go true e k = (run-within identifier_byte s, run-clear identifier_byte no_slash _ (run-every identifier_byte s), eqb-true _ 0 e)
      go false e k = absurd (omega arith)

pub rule-plain : (least most : ℕ) (s : List ℕ) → least ≤ run identifier_byte s → run identifier_byte s ≤ most → rule_run (record { least = least; most = most; form = plain }) s ≡ run identifier_byte s
rule-plain least most s h k =
    let r : Rule = record { least = least; most = most; form = plain } in
    rule_in r s (accepted-by r (take (run identifier_byte s) s) (run-every identifier_byte s) (rw (run_length r s) h) (rw (run_length r s) k) refl)

-- by the check of a name
pub name_empty : (m : Name) (s : List ℕ) → run identifier_byte s ≡ 0 → name_run m s ≡ 0
unfolding name_run
name_empty m s h = none-there (eqb (name_fault m (take (run identifier_byte s) s)) 0) _ h

module _ (m : Name) (s : List ℕ) (n v : ℕ) (e : n ≡ run identifier_byte s) (f : v ≡ name_fault m (take n s)) where
  pub name-refused : (v ≡ 0 → ⊥) → name_run m s ≡ 0
  unfolding name_run
  name-refused h = rw (ne_eqb (name_fault m (take (run identifier_byte s) s)) 0 (λ k. h (f ∙ rw e k)))

  pub name-accepted : v ≡ 0 → n ≡ name_run m s
  unfolding name_run
  name-accepted h = rw (eq-eqb (name_fault m (take (run identifier_byte s) s)) 0 (rw (← e) (sym f ∙ h))) e

pub connection-by-name : (s : List ℕ) → name_run Connection s ≡ rule_run check.connection s
unfolding name_run rule_run name_fault
connection-by-name s = refl

pub channel-by-name : (s : List ℕ) → name_run Channel s ≡ rule_run check.channel s
unfolding name_run rule_run name_fault
channel-by-name s = refl

-- an identifier up to the end of its component
pub run_is : (r : Rule) (c t : List ℕ) → Stops t → check_of r c ≡ 0 → rule_run r (c ++ t) ≡ length c
unfolding rule_run
run_is r c t k h = let e = run-to identifier_byte c t k no_slash (accepted-bytes r c h) in rw (e, take_at c t (length c) refl, eq-eqb (check_of r c) 0 h)

-- ---- the scanner
module _ (n : Name) (r : Rule) (least : 0 < r.least) (rule : (c : List ℕ) → name_fault n c ≡ check_of r c) where
  fits-is : (c : List ℕ) → fits (name n) c ≡ eqb (check_of r c) 0
  unfolding fits
  fits-is c = rw (rule c)

  scans-name : Scans (name n) (λ s. ltb 0 (rule_run r s)) (rule_run r)
  scans-name = record { sound = sound; whole = whole }
    where
      sound : (s : List ℕ) → ltb 0 (rule_run r s) ≡ true → (rule_run r s ≤ length s) × (without 47 (take (rule_run r s) s) ≡ true) × (fits (name n) (take (rule_run r s) s) ≡ true)
      sound s h = let k = run-taken r s (ltb-true 0 (rule_run r s) h) in (k.0, k.1, fits-is (take (rule_run r s) s) ∙ eq-eqb _ 0 k.2)

      whole : (c t : List ℕ) → Stops t → without 47 c ≡ true → fits (name n) c ≡ true → (ltb 0 (rule_run r (c ++ t)) ≡ true) × (rule_run r (c ++ t) ≡ length c)
      whole c t k h f =
          let good = eqb-true (check_of r c) 0 (sym (fits-is c) ∙ f) in
          let l = (accepted-length r c good).0 in
          let e = run_is r c t k good in
          (lt-ltb 0 (rule_run r (c ++ t)) (omega (arith, e, l, least)), e)

-- the four identifiers that have a rule
pub scans-client : Scans (name Client) (λ s. ltb 0 (rule_run check.client s)) (rule_run check.client)
unfolding name_fault
scans-client = scans-name Client check.client (omega arith) (λ c. refl)

pub scans-connection : Scans (name Connection) (λ s. ltb 0 (rule_run check.connection s)) (rule_run check.connection)
unfolding name_fault
scans-connection = scans-name Connection check.connection (omega arith) (λ c. refl)

pub scans-port : Scans (name Port) (λ s. ltb 0 (rule_run check.port s)) (rule_run check.port)
unfolding name_fault
scans-port = scans-name Port check.port (omega arith) (λ c. refl)

pub scans-channel : Scans (name Channel) (λ s. ltb 0 (rule_run check.channel s)) (rule_run check.channel)
unfolding name_fault
scans-channel = scans-name Channel check.channel (omega arith) (λ c. refl)
