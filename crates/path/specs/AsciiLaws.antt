-- What fits a kind is ASCII, so that a text that is read need not be tested for it.
-- Assumes nothing.
use Rattle.std.specs.Prelude.{ℕ, ◌+◌, ◌^◌, ◌≡◌, refl, Bool, true, false, cond, ◌&&◌, List, [], ◌∷◌, eqb, ltb, leb, Option, Some, None, Err}
use Rattle.std.proofs.Common.{sym, ◌∙◌, arith, eqb-true, lt-ltb, leb-true}
use Rattle.text.specs.Number.{is_digit, with_digit, digits_from, digits_at, numeral_of}
use Rattle.text.specs.Part.{every, ascii}
use Rattle.text.specs.PartLaws.{and_left, and_right, same-is}
use Rattle.text.specs.declared.NumberFault.TheVariants.{NotADigit, TooLarge}
use Rattle.identifiers.specs.Check.{unless, is_value}
use Rattle.identifiers.specs.Check as check
use Rattle.identifiers.specs.CheckLaws.{first-zero, unless-zero, accepted-ascii}
use Rattle.path.specs.declared.Path.{Path}
use Rattle.path.specs.Text.{components, cut_at}
use Rattle.path.specs.TextLaws.{every_in, every-join, join-cut}
use Rattle.path.specs.Kinds.{Part, word, name, count, pair, Kind, kinds, kind18, kind19}
use Rattle.path.specs.declared.name.Name.{Name}
use Rattle.path.specs.declared.name.Name.TheVariants.{Client as client, Connection as connection, Port as port, Channel as channel, Upgrade as upgrade}
use Rattle.path.specs.Read.{name_fault, is_number, are_pair, fits, carried_from, fits_kind, read_kind, or_else, read_first}
use Rattle.path.specs.ReadLaws.{kind_fits}
use Rattle.path.specs.Spelled.{fit_all}

abbrev low : ℕ → Bool
low b = ltb b 128

-- ---- a number text
digits_low : (v i : ℕ) (s : List ℕ) → is_value (digits_from v i s) ≡ true → every low s ≡ true
unfolding digits_from every
digits_low v i [] h = refl
digits_low v i (b ∷ s) h = go (is_digit b) refl (ltb (with_digit v b) (2 ^ 64)) h (digits_low (with_digit v b) (i + 1) s)
  where
    go : (d : Bool) → is_digit b ≡ d → (l : Bool) → is_value (cond d (cond l (digits_from (with_digit v b) (i + 1) s) (Err (TooLarge i))) (Err (NotADigit i))) ≡ true
        → (is_value (digits_from (with_digit v b) (i + 1) s) ≡ true → every low s ≡ true) → (low b && every low s) ≡ true
    go true e true k ih = rw (lt-ltb b 128 (omega (arith, leb-true b 57 (and_right (leb 48 b) _ e)))) (ih k)
    go true e false k ih = let z : ◌≡◌ {A = ℕ} 0 1 = cc in absurd (omega arith)
    go false e l k ih = let z : ◌≡◌ {A = ℕ} 0 1 = cc in absurd (omega arith)

some-low : (i : ℕ) (s : List ℕ) → is_value (digits_at i s) ≡ true → every low s ≡ true
unfolding digits_at every
some-low i [] h = refl
some-low i (b ∷ s) h = digits_low 0 i (b ∷ s) h

number-low : (c : List ℕ) → is_number c ≡ true → every low c ≡ true
unfolding numeral_of every
number-low [] h = refl
number-low (b ∷ s) h = go (eqb b 43) refl h
  where
    go : (v : Bool) → eqb b 43 ≡ v → is_value (cond v (digits_at 1 s) (digits_at 0 (b ∷ s))) ≡ true → (low b && every low s) ≡ true
    go true e k = rw (lt-ltb b 128 (omega (arith, eqb-true b 43 e))) (some-low 1 s k)
    go false e k = some-low 0 (b ∷ s) k

-- ---- what fits a part whose word is ASCII
abbrev part_low : Part → Bool
part_low (word w) = every low w
part_low (name n) = true
part_low count = true
part_low pair = true

name-low : (n : Name) (c : List ℕ) → name_fault n c ≡ 0 → every low c ≡ true
unfolding name_fault ascii
name-low client c h = accepted-ascii check.client c h
name-low connection c h = accepted-ascii check.connection c h
name-low port c h = accepted-ascii check.port c h
name-low channel c h = accepted-ascii check.channel c h
name-low upgrade c h = unless-zero 2 _ (omega arith) (first-zero (unless 2 (ascii c)) _ h).0

pair-low : (cs : List (List ℕ)) → are_pair cs ≡ true → every_in low cs ≡ true
pair-low [] h = refl
pair-low (r ∷ []) h = let z : ◌≡◌ {A = ℕ} 0 1 = cc in absurd (omega arith)
pair-low (r ∷ (s ∷ [])) h = rw (number-low r (and_left (is_number r) (is_number s) h), number-low s (and_right (is_number r) (is_number s) h))
pair-low (r ∷ (s ∷ (x ∷ xs))) h = let z : ◌≡◌ {A = ℕ} 0 1 = cc in absurd (omega arith)

fits_low : (p : Part) (c : List ℕ) → part_low p ≡ true → fits p c ≡ true → every low c ≡ true
unfolding fits
fits_low (word w) c l h = rw (same-is c w h) l
fits_low (name n) c l h = name-low n c (eqb-true (name_fault n c) 0 h)
fits_low count c l h = number-low c h
fits_low pair c l h = rw (join-cut 45 c) at (every-join low 45 (cut_at 45 c) refl (pair-low (cut_at 45 c) h))

-- ---- and a kind
abbrev parts_low : List Part → Bool
parts_low [] = true
parts_low (p ∷ ps) = part_low p && parts_low ps

parts-fit-low : (ps : List Part) (cs : List (List ℕ)) → parts_low ps ≡ true → fit_all ps cs ≡ true → every_in low cs ≡ true
parts-fit-low [] [] l h = refl
parts-fit-low [] (c ∷ cs) l h = let z : ◌≡◌ {A = ℕ} 0 1 = cc in absurd (omega arith)
parts-fit-low (p ∷ ps) [] l h = refl
parts-fit-low (p ∷ ps) (c ∷ cs) l h =
    rw (fits_low p c (and_left (part_low p) (parts_low ps) l) (and_left (fits p c) (fit_all ps cs) h))
    (parts-fit-low ps cs (and_right (part_low p) (parts_low ps) l) (and_right (fits p c) (fit_all ps cs) h))

kind-low : (e : Kind) (t : List ℕ) → parts_low e.parts ≡ true → fits_kind e t ≡ true → ascii t ≡ true
unfolding ascii
kind-low e t l h = rw (join-cut 47 t) at (every-join low 47 (components t) refl (parts-fit-low e.parts (components t) l (sym (kind_fits e t) ∙ h)))

abbrev pub kinds_low : List Kind → Bool
kinds_low [] = true
kinds_low (e ∷ es) = parts_low e.parts && kinds_low es

pub first-low : (es : List Kind) (t : List ℕ) (p : Path) → kinds_low es ≡ true → read_first es t ≡ Some p → ascii t ≡ true
unfolding read_first read_kind
first-low [] t p l h = let z : ◌≡◌ {A = ℕ} 0 1 = cc in absurd (omega arith)
first-low (e ∷ es) t p l h = go (fits_kind e t) refl h (λ k. first-low es t p (and_right (parts_low e.parts) (kinds_low es) l) k)
  where
    go : (v : Bool) → fits_kind e t ≡ v → or_else (cond v (Some (e.make (carried_from 0 e.parts t))) None) (read_first es t) ≡ Some p
        → (read_first es t ≡ Some p → ascii t ≡ true) → ascii t ≡ true
    go true g k ih = kind-low e t (and_left (parts_low e.parts) (kinds_low es) l) g
    go false g k ih = ih k

-- a text that is not ASCII is read as none of them
pub none-high : (es : List Kind) (t : List ℕ) → kinds_low es ≡ true → ascii t ≡ false → None ≡ read_first es t
none-high es t l h = go (read_first es t) refl
  where
    go : (a : Option Path) → read_first es t ≡ a → None ≡ a
    go (Some p) e = let y = first-low es t p l e in let z : ◌≡◌ {A = ℕ} 0 1 = cc in absurd (omega arith)
    go None e = refl

pub kinds-low : kinds_low kinds ≡ true
unfolding every kinds
kinds-low = refl

pub upgrades-low : kinds_low (kind18 ∷ kind19 ∷ []) ≡ true
unfolding every
upgrades-low = refl
