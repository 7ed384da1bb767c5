-- Demand 1 of the wide calls: the numbers that their checks give, and what is wanted of them. 21 stands in the place of 2, which none gives.
-- Assumes nothing.
use Rattle.std.specs.Prelude.{ℕ, max, ◌-◌, ◌≡◌, refl, Bool, true, false, cond, ◌&&◌, eqb, ltb, length, Ok, Err, Option, Some, None}
use Rattle.std.proofs.Math.Bool.{not}
use mathlib.Core.List.{List, [], ◌∷◌, ◌++◌}
use Rattle.std.proofs.Common.{arith}
use Rattle.std.proofs.Math.Dec.{leb}
use Rattle.text.specs.Bytes.{bytes}
use Rattle.text.specs.Number.{decimal}
use Rattle.text.specs.Part.{every, ascii}
use Rattle.text.specs.Put.{refused, answer}
use Rattle.identifiers.specs.Check.{first, unless, identifier_byte, within, named_of, plain, indexed, client, client_type, port, channel}
use Rattle.path.specs.Reading.{Reading}
use Rattle.path.specs.declared.Refusal.{Refusal}
use Rattle.path.specs.declared.Refusal.TheVariants.{TooLong, NotAscii, NotAPath, NoDigits as WithoutDigits, NotADigit as WithoutDigit, TooLarge as AboveAll}
use Rattle.path.specs.Kinds.{Part, word, name, count, pair, Carried, name_in}
use Rattle.path.specs.declared.name.Name.{Name}
use Rattle.path.specs.declared.name.Name.TheVariants.{Client, Connection, Port, Channel, Upgrade}
use Rattle.path.specs.Read.{render, parts_of, read_path, read_fault, reading_bytes, refusal_of}
use Rattle.path.specs.Parents.{consensus_parent, packets_path}
use Rattle.letters.specs.Character.{utf8}
use Rattle.letters.specs.Narrow.{narrow}
use Rattle.letters.specs.NarrowLaws.{narrow-ascii}
use Rattle.wide.specs.Mode.{wide}
use Rattle.wide.specs.Check.{taken_in, chars_in, length_in, prefix_length_in, named_index_in, check_in, trim_in, new_client_in}
use Rattle.wide.specs.Read.{read_in, key_by_in, key_in, bytes_by_in, reading_bytes_in}
use Rattle.wide.specs.Render.{name_fault_in, names_fault_in, limited_in, render_in, text_in}
use Rattle.demands.specs.Shape.{Listed}
use Rattle.demands.specs.ShapeLaws.{Wants, one_of, both_of, named-number, accepted_wants}
use Rattle.demands.specs.Written.{WhenRead}
use Rattle.demands.specs.Demand2Laws.{when_read}
use Rattle.demands.specs.Numbers.{wide_readings, wide_renderings, wide_clients, wide_ends}

-- ---- the numbers of the checks, for any property that 0 and these have
module _ (P : ℕ → Type 0) (zero : P 0) (other : P 21) where
  taken_of : (s : List ℕ) → P (taken_in wide s)
  unfolding wide
  taken_of s = one_of P zero 21 (utf8 s) other

  pub chars-number : P 5 → (s : List ℕ) → P (chars_in wide s)
  unfolding wide chars_in
  chars-number five s = both_of P zero (unless 21 (utf8 s)) (unless 5 (every identifier_byte (narrow s))) (taken_of s) (one_of P zero 5 (every identifier_byte (narrow s)) five)

  within_of : P 6 → (least most n : ℕ) → P (within least most n)
  unfolding within
  within_of six least most n = one_of P zero 6 (leb least n && leb n most) six

  pub length-number : P 6 → (s : List ℕ) (least most : ℕ) → P (length_in wide s least most)
  unfolding length_in
  length-number six s least most = both_of P zero (taken_in wide s) (within (max least 1) most (length s)) (taken_of s) (within_of six (max least 1) most (length s))

  pub prefix-number : P 6 → (s : List ℕ) (least most : ℕ) → P (prefix_length_in wide s least most)
  unfolding prefix_length_in
  prefix-number six s least most = length-number six s (least - 2) (most - 21)

  pub named-index-number : P 7 → P 17 → P 18 → P 19 → (s n : List ℕ) → P (named_index_in wide s n)
  unfolding named_index_in
  named-index-number seven none more large s n =
      both_of P zero (taken_in wide s) (first (taken_in wide n) (named_of n s)) (taken_of s) (both_of P zero (taken_in wide n) (named_of n s) (taken_of n) (named-number P zero seven none more large n s))

  module _ (five : P 5) (six : P 6) where
    pub plain_of : (least most : ℕ) (s : List ℕ) → P (check_in wide (record { least = least; most = most; form = plain }) s)
    unfolding check_in
    plain_of least most s = both_of P zero (chars_in wide s) (first (within least most (length s)) 0) (chars-number five s) (both_of P zero (within least most (length s)) 0 (within_of six least most (length s)) zero)

    module _ (seven : P 7) (none : P 17) (more : P 18) (large : P 19) where
      pub indexed_of : (least most : ℕ) (n s : List ℕ) → P (check_in wide (record { least = least; most = most; form = indexed n }) s)
      unfolding check_in
      indexed_of least most n s =
          both_of P zero (chars_in wide s) (first (within least most (length s)) (named_of n s)) (chars-number five s) (both_of P zero (within least most (length s)) (named_of n s) (within_of six least most (length s)) (named-number P zero seven none more large n s))

      module _ (thirteen : P 13) where
        pub name_of : (n : Name) (c : List ℕ) → P (name_fault_in wide n c)
        unfolding name_fault_in
        name_of Client c = plain_of 9 64 c
        name_of Connection c = indexed_of 10 64 (bytes "connection") c
        name_of Port c = plain_of 2 128 c
        name_of Channel c = indexed_of 8 64 (bytes "channel") c
        name_of Upgrade c = both_of P zero (taken_in wide c) (unless 13 (every (λ b. not (eqb b 47)) c)) (taken_of c) (one_of P zero 13 (every (λ b. not (eqb b 47)) c) thirteen)

        names_of : (ps : List Part) (v : Carried (List ℕ)) → P (names_fault_in wide ps v)
        unfolding names_fault_in
        names_of [] v = zero
        names_of (word w ∷ ps) v = names_of ps v
        names_of (name n ∷ ps) v = both_of P zero (name_fault_in wide n (name_in n v)) (names_fault_in wide ps v) (name_of n (name_in n v)) (names_of ps v)
        names_of (count ∷ ps) v = names_of ps v
        names_of (pair ∷ ps) v = names_of ps v

-- ---- a reading never gives 2, since a picture is ASCII
picture-reads : (t : List ℕ) → read_path (narrow t) ≡ Err NotAscii → ⊥
unfolding read_fault reading_bytes answer
picture-reads t h =
    let when : WhenRead (narrow t) [] (read_fault (narrow t) 0) = when_read (narrow t) [] (read_fault (narrow t) 0) refl in
    let two : (read_fault (narrow t) 0).refusal ≡ 2 = rw h in
    let high : ascii (narrow t) ≡ false = (when.not_ascii_when.0 two).1 in
    let low : ascii (narrow t) ≡ true = narrow-ascii t in
    let z : ◌≡◌ {A = ℕ} 0 1 = cc in
    omega arith

never-two : (t : List ℕ) → read_in wide t ≡ Some (Err NotAscii) → ⊥
unfolding wide read_in
never-two t h = go (ltb 4096 (length t)) (utf8 t) h
  where
    go : (a b : Bool) → cond a (Some (Err TooLong)) (cond b (Some (read_path (narrow t))) None) ≡ Some (Err NotAscii) → ⊥
    go true b e = let z : ◌≡◌ {A = ℕ} 0 1 = cc in omega arith
    go false true e = picture-reads t cc
    go false false e = let z : ◌≡◌ {A = ℕ} 0 1 = cc in omega arith

reading-refusal : (t : List ℕ) (w : Refusal) → read_in wide t ≡ Some (Err w) → Listed wide_readings (refusal_of w)
reading-refusal t TooLong h = refl
reading-refusal t NotAscii h = absurd (never-two t h)
reading-refusal t NotAPath h = refl
reading-refusal t (WithoutDigits i) h = refl
reading-refusal t (WithoutDigit i) h = refl
reading-refusal t (AboveAll i) h = refl

-- ---- what is wanted
pub key_wants : (t : List ℕ) → Wants wide_readings (key_in wide t)
unfolding wide key_in
key_wants t = go (read_in wide t) refl
  where
    go : (x : Option Reading) → read_in wide t ≡ x → Wants wide_readings (key_by_in wide t x)
    go (Some (Ok r)) h = tt
    go (Some (Err w)) h = reading-refusal t w h
    go None h = refl

pub reading_wants : (t : List ℕ) → Wants wide_readings (reading_bytes_in wide t)
unfolding wide reading_bytes_in
reading_wants t = go (read_in wide t) refl
  where
    go : (x : Option Reading) → read_in wide t ≡ x → Wants wide_readings (bytes_by_in wide x)
    go (Some (Ok r)) h = tt
    go (Some (Err w)) h = reading-refusal t w h
    go None h = refl

pub render_wants : (k : ℕ) (v : Carried (List ℕ)) → Wants wide_renderings (render_in wide k v)
unfolding render_in
render_wants k v = go (leb 1 k && leb k 19)
  where
    short : Bool
    short = leb (length (render (parts_of k) v)) 4096

    go : (b : Bool) → Wants wide_renderings (cond b (limited_in wide (parts_of k) v) (refused 14))
    go true = accepted_wants wide_renderings (first (names_fault_in wide (parts_of k) v) (unless 1 short)) (render (parts_of k) v) (both_of (Listed wide_renderings) refl (names_fault_in wide (parts_of k) v) (unless 1 short) (names_of (Listed wide_renderings) refl refl refl refl refl refl refl refl refl (parts_of k) v) (one_of (Listed wide_renderings) refl 1 short refl))
    go false = refl

pub client_wants : (s : List ℕ) (n : ℕ) → Wants wide_clients (new_client_in wide s n)
unfolding new_client_in
client_wants s n = accepted_wants wide_clients (first (taken_in wide s) (check_in wide client_type (trim_in wide s))) (trim_in wide s ++ (bytes "-" ++ decimal n)) (both_of (Listed wide_clients) refl (taken_in wide s) (check_in wide client_type (trim_in wide s)) (taken_of (Listed wide_clients) refl refl s) (plain_of (Listed wide_clients) refl refl refl refl 7 43 (trim_in wide s)))

pub parent_wants : (v : Carried (List ℕ)) → Wants wide_clients (text_in wide consensus_parent v)
unfolding text_in names_fault_in name_fault_in
parent_wants v = accepted_wants wide_clients (first (check_in wide client v.first) 0) (render consensus_parent v) (both_of (Listed wide_clients) refl (check_in wide client v.first) 0 (plain_of (Listed wide_clients) refl refl refl refl 9 64 v.first) refl)

pub packets_wants : (w : List ℕ) (v : Carried (List ℕ)) → Wants wide_ends (text_in wide (packets_path w) v)
unfolding text_in names_fault_in name_fault_in
packets_wants w v =
    accepted_wants wide_ends (first (check_in wide port v.first) (first (check_in wide channel v.second) 0)) (render (packets_path w) v)
    (both_of (Listed wide_ends) refl (check_in wide port v.first) (first (check_in wide channel v.second) 0) (plain_of (Listed wide_ends) refl refl refl refl 2 128 v.first) (both_of (Listed wide_ends) refl (check_in wide channel v.second) 0 (indexed_of (Listed wide_ends) refl refl refl refl refl refl refl refl 8 64 (bytes "channel") v.second) refl))
