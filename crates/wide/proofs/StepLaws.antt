-- Laws of the checks in order, behind those of specs/StepLaws.
-- They stand here, since they rest on a definition that an edit of must-fail/ turns.
-- Assumes nothing.
use Rattle.std.specs.Prelude.{ℕ, ◌≤◌, Bool, ◌&&◌, leb}
use Rattle.std.proofs.Math.Path.{◌≡◌, refl}
use Rattle.std.proofs.Common.{◌∙◌}
use Rattle.std.proofs.Math.Bool.{true, false}
use mathlib.Core.List.{List}
use Rattle.std.proofs.Math.ListN.{length}
use Rattle.text.specs.Fault.{fault, has_place}
use Rattle.text.specs.FaultLaws.{refuses}
use Rattle.text.specs.Part.{every}
use Rattle.identifiers.specs.Check.{first, unless, identifier_byte, within, named_of, index_place, Form, indexed, Rule, client_type, form_of}
use Rattle.identifiers.specs.Check as check
use Rattle.identifiers.specs.CheckLaws.{first-zero, first_some, first-none}
use Rattle.path.specs.declared.name.Name.TheVariants.{Port as port, Channel as channel}
use Rattle.letters.specs.Character.{utf8}
use Rattle.letters.specs.Narrow.{narrow}
use Rattle.render.specs.declared.Names.TheVariants.{PortAndChannel}
use Rattle.render.specs.Render.{fault_by}
use Rattle.wide.specs.Mode.{Mode, wide}
use Rattle.wide.specs.Check.{chars_in, check_in, fault_in}
use Rattle.wide.specs.Render.{name_fault_in}
use Rattle.wide.specs.StepLaws.{accepted-length, check-short, check-form}

-- 21, 5 and 6 have no place
short-placeless : (least most : ℕ) (s : List ℕ) → has_place (check_in wide (record { least = least; most = most; form = check.plain }) s) ≡ false
unfolding wide chars_in within
short-placeless least most s = rw (check-short wide least most s) (go (utf8 s) (every identifier_byte (narrow s)) (leb least (length s) && leb (length s) most))
  where
    go : (a b d : Bool) → has_place (first (first (unless 21 a) (unless 5 b)) (unless 6 d)) ≡ false
    go true true true = refl
    go true true false = refl
    go true false d = refl
    go false b d = refl

module _ (least most : ℕ) (name s : List ℕ) (n : ℕ) (e : n ≡ check_in wide (record { least = least; most = most; form = check.plain }) s) where
  abbrev asked : ℕ
  asked = check_in wide (record { least = least; most = most; form = indexed name }) s

  pub short-first : (n ≡ 0 → ⊥) → record { refusal = n; place = 0 } ≡ fault_in wide (record { least = least; most = most; form = indexed name }) s
  unfolding fault_in
  short-first h = refuses n asked (index_place name s) (check-form wide least most s (indexed name) ∙ rw (← e) (first_some n (named_of name s) h)) (rw e (short-placeless least most s))

  pub named-last : n ≡ 0 → fault (named_of name s) (index_place name s) ≡ fault_in wide (record { least = least; most = most; form = indexed name }) s
  unfolding fault_in
  named-last h = let k : asked ≡ named_of name s = check-form wide least most s (indexed name) ∙ rw (← e) (first-none n (named_of name s) h) in rw k

-- accepted identifiers are short
pub ends-most : (m : Mode) (p h : List ℕ) → fault_by (name_fault_in m) PortAndChannel p h ≡ 0 → (length p ≤ 128) × (length h ≤ 64)
unfolding name_fault_in
ends-most m p h e = let z = first-zero (name_fault_in m port p) (name_fault_in m channel h) e in ((accepted-length m check.port p z.0).1, (accepted-length m check.channel h z.1).1)
