-- How long a rendering is: at most 251 bytes outside kinds 18 and 19, which one of kind 15 has.
-- Assumes nothing.
use Rattle.std.specs.Prelude.{ℕ, suc, ◌+◌, ◌-◌, ◌≤◌, ◌<◌, ◌^◌, ◌≡◌, refl, List, [], ◌∷◌, ◌++◌, Bool, true, leb, length, get_or, replicate}
use Rattle.std.proofs.Common.{arith, length-append, leb-true}
use Rattle.text.specs.Bytes.{bytes}
use Rattle.text.specs.Number.{numeral_of, digits_at, digits_from, decimal, digits, width, width_by}
use Rattle.text.specs.NumberLaws.{length-decimal_u64}
use Rattle.text.specs.Part.{every, ascii, starts_with}
use Rattle.text.specs.PartLaws.{every-at}
use Rattle.identifiers.specs.Check.{among, identifier_byte, chars_of, within, index_of, named_of, check_of}
use Rattle.identifiers.specs.Check as check
use Rattle.identifiers.specs.CheckLaws.{first-zero, accepted-length}
use Rattle.path.specs.declared.Path.{Path}
use Rattle.path.specs.Reading.{Read}
use Rattle.path.specs.Text.{join_by}
use Rattle.path.specs.Kinds.{Part, word, name, count, pair, Carried, carried, kinds, name_in}
use Rattle.path.specs.declared.name.Name.{Name}
use Rattle.path.specs.declared.name.Name.TheVariants.{Client as client, Connection as connection, Port as port, Channel as channel, Upgrade as upgrade}
use Rattle.path.specs.Read.{name_fault, show, shown, render, parts_of, names_fault, render_path, read_path}
use Rattle.path.specs.Valid.{Valid}
use Rattle.path.specs.ReadLaws.{up_from, up_at}
use Rattle.path.specs.ExactLaws.{rendering-not-longer}
use Rattle.path.specs.BackLaws.{read_short, read_reads}

-- ---- the most that a part shows; U has no bound of its own
abbrev pub most_name : Name → Carried (List ℕ) → ℕ
most_name client v = 64
most_name connection v = 64
most_name port v = 128
most_name channel v = 64
most_name upgrade v = length v.first

abbrev pub most_part : Part → Carried (List ℕ) → ℕ
most_part (word w) v = length w
most_part (name n) v = most_name n v
most_part count v = 20
most_part pair v = 41

-- and that a list of parts does, with one byte before each
abbrev pub most_of : List Part → Carried (List ℕ) → ℕ
most_of [] v = 0
most_of (p ∷ ps) v = suc (most_part p v) + most_of ps v

name-most : (n : Name) (v : Carried (List ℕ)) → name_fault n (name_in n v) ≡ 0 → length (name_in n v) ≤ most_name n v
unfolding name_fault
name-most client v h = (accepted-length check.client v.first h).1
name-most connection v h = (accepted-length check.connection v.first h).1
name-most port v h = (accepted-length check.port v.first h).1
name-most channel v h = (accepted-length check.channel v.second h).1
name-most upgrade v h = omega arith

-- the bytes of texts, with one before each
abbrev total : List (List ℕ) → ℕ
total [] = 0
total (c ∷ cs) = suc (length c) + total cs

join-total : (x : ℕ) (cs : List (List ℕ)) → length (join_by x cs) ≤ total cs - 1
unfolding join_by
join-total x [] = omega arith
join-total x (c ∷ []) = omega arith
join-total x (c ∷ (d ∷ cs)) = simp length-append (omega (arith, join-total x (d ∷ cs)))

shown-most : (ps : List Part) (v : Carried (List ℕ)) → v.a < 2 ^ 64 → v.b < 2 ^ 64 → names_fault ps v ≡ 0 → total (shown ps v) ≤ most_of ps v
unfolding names_fault show
shown-most [] v a b h = omega arith
shown-most (word w ∷ ps) v a b h = omega (arith, shown-most ps v a b h)
shown-most (name n ∷ ps) v a b h =
    let k = first-zero (name_fault n (name_in n v)) (names_fault ps v) h in
    omega (arith, name-most n v k.0, shown-most ps v a b k.1)
shown-most (count ∷ ps) v a b h = omega (arith, length-decimal_u64 v.a a, shown-most ps v a b h)
shown-most (pair ∷ ps) v a b h =
    simp length-append (omega (arith, length-decimal_u64 v.a a, length-decimal_u64 v.b b, shown-most ps v a b h))

pub rendered-most : (ps : List Part) (v : Carried (List ℕ)) → v.a < 2 ^ 64 → v.b < 2 ^ 64 → names_fault ps v ≡ 0 → length (render ps v) ≤ most_of ps v - 1
unfolding render
rendered-most ps v a b h = omega (arith, join-total 47 (shown ps v), shown-most ps v a b h)

-- ---- the kinds but the last two
all_most : (v : Carried (List ℕ)) → every (λ k. leb (most_of (parts_of k) v) 252) (up_from 17 1) ≡ true
unfolding every parts_of kinds
all_most v = refl

pub longest : (k : ℕ) (v : Carried (List ℕ)) → 1 ≤ k → k ≤ 17 → v.a < 2 ^ 64 → v.b < 2 ^ 64 → names_fault (parts_of k) v ≡ 0 → length (render (parts_of k) v) ≤ 251
longest k v l m a b h =
    let e : get_or (up_from 17 1) (k - 1) 0 ≡ k = omega (arith, up_at 17 1 (k - 1) (omega arith)) in
    let n : most_of (parts_of k) v ≤ 252 = leb-true _ _ (rw e at (every-at (λ j. leb (most_of (parts_of j) v) 252) (up_from 17 1) (k - 1) (all_most v) (omega arith))) in
    omega (arith, rendered-most (parts_of k) v a b h)

-- a port of 128 bytes, a channel of 64 and a sequence of 20
abbrev pub long_path : Carried (List ℕ)
long_path = carried (replicate 128 97) (bytes "channel-+" ++ replicate 55 48) 18446744073709551615 0

pub long-is : length (render (parts_of 15) long_path) ≡ 251
unfolding parts_of kinds render show join_by decimal digits width width_by
long-is = refl

pub long-valid : Valid 15 long_path
unfolding parts_of kinds names_fault name_fault check_of chars_of within named_of index_of identifier_byte among every ascii starts_with numeral_of digits_at digits_from
long-valid = record { least = omega arith; most = omega arith; names = refl; a = omega arith; b = omega arith; size = omega (arith, long-is) }

-- ---- what is read renders in at most 4,096 bytes
pub rendering-short : (t : List ℕ) (p : Path) (e : Bool) → read_path t ≡ Read p e → length (render_path t p) ≤ 4096
rendering-short t p e h = omega (arith, rendering-not-longer (read_reads t p e h), read_short t p e h)
