-- Laws of the checks of texts that are ASCII, and of what is rendered by them, behind those of specs/AsciiLaws.
-- They stand here, since they rest on a definition that an edit of must-fail/ turns.
-- Assumes nothing.
use Rattle.std.specs.Prelude.{ℕ, ◌-◌, ◌≡◌, ltb, length, take, drop}
use Rattle.std.proofs.Math.Path.{refl}
use Rattle.std.proofs.Common.{sym, ap, ◌∙◌, take-append-drop}
use Rattle.std.proofs.Math.Bool.{true}
use mathlib.Core.List.{List, [], ◌∷◌}
use Rattle.text.specs.Part.{every, ascii}
use Rattle.text.specs.PartLaws.{and_left, and_right, every_append}
use Rattle.identifiers.specs.Check.{Rule, fault_of, client_type}
use Rattle.identifiers.specs.Owned.{trim_start, trim, new_client}
use Rattle.path.specs.declared.name.Name.{Name}
use Rattle.path.specs.declared.name.Name.TheVariants.{Client as client, Connection as connection, Port as port, Channel as channel, Upgrade as upgrade}
use Rattle.path.specs.Kinds.{Part, word, name, count, pair, Carried, name_in}
use Rattle.path.specs.Parents.{text_of}
use Rattle.path.specs.Read.{name_fault, names_fault, render_of}
use Rattle.letters.specs.CharacterLaws.{ascii-utf8}
use Rattle.letters.specs.NarrowLaws.{ascii-narrow}
use Rattle.wide.specs.Mode.{plain, wide}
use Rattle.wide.specs.Check.{fault_in, trim_in, new_client_in}
use Rattle.wide.specs.Render.{name_fault_in, names_fault_in, render_in, text_in}
use Rattle.wide.specs.PlainLaws.{trim-plain}
use Rattle.wide.specs.AsciiLaws.{check-ascii}

module _ (s : List ℕ) (low : ascii s ≡ true) where
  pub fault-ascii : (r : Rule) → fault_in wide r s ≡ fault_of r s
  unfolding fault_in fault_of
  fault-ascii r = rw (check-ascii s low r)

-- ---- a new client identifier
trim-ascii : (s : List ℕ) → ascii s ≡ true → trim_in wide s ≡ trim s
unfolding wide plain trim_in
trim-ascii s low = rw (ascii-narrow s low) (trim-plain s)

part_low : (s : List ℕ) (i n : ℕ) → ascii s ≡ true → ascii (take n (drop i s)) ≡ true
unfolding ascii
part_low s i n h =
    let rest = and_right (every (λ b. ltb b 128) (take i s)) _ (sym (every_append _ (take i s) (drop i s)) ∙ ap (every (λ b. ltb b 128)) (take-append-drop i s) ∙ h) in
    and_left _ (every (λ b. ltb b 128) (drop n (drop i s))) (sym (every_append _ (take n (drop i s)) (drop n (drop i s))) ∙ ap (every (λ b. ltb b 128)) (take-append-drop n (drop i s)) ∙ rest)

trimmed-low : (s : List ℕ) → ascii s ≡ true → ascii (trim s) ≡ true
unfolding plain trim_in
trimmed-low s low = ap ascii (sym (trim-plain s)) ∙ part_low s (length s - length (trim_start s)) (length (trim s)) low

pub new_ascii : (s : List ℕ) → ascii s ≡ true → (n : ℕ) → new_client_in wide s n ≡ new_client s n
unfolding wide new_client_in new_client
new_ascii s low n = rw (ascii-utf8 s low, low, trim-ascii s low, check-ascii (trim s) (trimmed-low s low) client_type)

-- ---- rendering
pub name-ascii : (n : Name) (c : List ℕ) → ascii c ≡ true → name_fault_in wide n c ≡ name_fault n c
unfolding wide name_fault_in name_fault
name-ascii client c h = check-ascii c h _
name-ascii connection c h = check-ascii c h _
name-ascii port c h = check-ascii c h _
name-ascii channel c h = check-ascii c h _
name-ascii upgrade c h = rw (ascii-utf8 c h, h)

module _ (v : Carried (List ℕ)) (one : ascii v.first ≡ true) (two : ascii v.second ≡ true) where
  low-name : (n : Name) → ascii (name_in n v) ≡ true
  low-name client = one
  low-name connection = one
  low-name port = one
  low-name channel = two
  low-name upgrade = one

  pub names-ascii : (ps : List Part) → names_fault_in wide ps v ≡ names_fault ps v
  unfolding names_fault_in names_fault
  names-ascii [] = refl
  names-ascii (word w ∷ ps) = names-ascii ps
  names-ascii (name n ∷ ps) = rw (name-ascii n (name_in n v) (low-name n), names-ascii ps)
  names-ascii (count ∷ ps) = names-ascii ps
  names-ascii (pair ∷ ps) = names-ascii ps

  pub render-ascii : (k : ℕ) → render_in wide k v ≡ render_of k v
  unfolding render_in render_of
  render-ascii k = rw names-ascii

  pub text-ascii : (ps : List Part) → text_in wide ps v ≡ text_of ps v
  unfolding text_in text_of
  text-ascii ps = rw (names-ascii ps)
