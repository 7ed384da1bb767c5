-- The rule of the tables: antt computes it once over all of their ranges, and each lookup in a part of them has it from there.
-- Assumes nothing.
use Rattle.std.specs.Prelude.{ℕ, ◌≤◌, ◌<◌, ◌≡◌, true, List, ◌++◌}
use Rattle.std.proofs.Math.Path.{refl}
use Rattle.std.proofs.Common.{◌∙◌, arith}
use Rattle.letters.specs.Table.{part1, part2, part3, part4, letters, blanks}
use Rattle.letters.specs.Class.{inside, rises, is_letter}
use Rattle.letters.specs.ClassLaws.{even, rises-parts, seam, look-first, look-second, covers, inside_covered}

-- ---- the rule
pub letters_rise : rises 127 letters ≡ true
unfolding rises letters part1 part2 part3 part4
letters_rise = refl

pub blanks_rise : rises 127 blanks ≡ true
unfolding rises blanks
blanks_rise = refl

-- ---- the parts of the letters are pairs, and stand on both sides of the numbers where they are cut
abbrev after2 : List ℕ
after2 = part3 ++ part4

abbrev after1 : List ℕ
after1 = part2 ++ after2

even1 : even part1 ≡ true
unfolding part1
even1 = refl

even2 : even part2 ≡ true
unfolding part2
even2 = refl

even3 : even part3 ≡ true
unfolding part3
even3 = refl

seam1 : seam 2048 part1 after1 ≡ true
unfolding part1 part2
seam1 = refl

seam2 : seam 8192 part2 after2 ≡ true
unfolding part2 part3
seam2 = refl

seam3 : seam 65536 part3 part4 ≡ true
unfolding part3 part4
seam3 = refl

-- ---- each part rises
all1 : rises 127 (part1 ++ after1) ≡ true
unfolding letters
all1 = letters_rise

all2 : rises 127 (part2 ++ after2) ≡ true
all2 = (rises-parts 127 part1 after1 even1 all1).1

all3 : rises 127 (part3 ++ part4) ≡ true
all3 = (rises-parts 127 part2 after2 even2 all2).1

pub rises1 : rises 127 part1 ≡ true
rises1 = (rises-parts 127 part1 after1 even1 all1).0

pub rises2 : rises 127 part2 ≡ true
rises2 = (rises-parts 127 part2 after2 even2 all2).0

pub rises3 : rises 127 part3 ≡ true
rises3 = (rises-parts 127 part3 part4 even3 all3).0

pub rises4 : rises 127 part4 ≡ true
rises4 = (rises-parts 127 part3 part4 even3 all3).1

-- ---- a lookup in the letters is one in the part that the number can stand in
module _ (v : ℕ) where
  in_all : is_letter v ≡ inside v (part1 ++ after1)
  unfolding is_letter letters
  in_all = refl

  past1 : 2048 ≤ v → is_letter v ≡ inside v after1
  past1 l = in_all ∙ look-second 127 2048 part1 after1 even1 all1 seam1 v l

  past2 : 8192 ≤ v → is_letter v ≡ inside v after2
  past2 l = past1 (omega arith) ∙ look-second 127 8192 part2 after2 even2 all2 seam2 v l

  pub in1 : v < 2048 → is_letter v ≡ inside v part1
  in1 h = in_all ∙ look-first 127 2048 part1 after1 even1 all1 seam1 v h

  pub in2 : 2048 ≤ v → v < 8192 → is_letter v ≡ inside v part2
  in2 l h = past1 l ∙ look-first 127 8192 part2 after2 even2 all2 seam2 v h

  pub in3 : 8192 ≤ v → v < 65536 → is_letter v ≡ inside v part3
  in3 l h = past2 l ∙ look-first 127 65536 part3 part4 even3 all3 seam3 v h

  pub in4 : 65536 ≤ v → is_letter v ≡ inside v part4
  in4 l = past2 (omega arith) ∙ look-second 127 65536 part3 part4 even3 all3 seam3 v l

-- ---- long ranges of the letters
pub letter_covered : (b y v : ℕ) → covers b y letters ≡ true → b ≤ v → v ≤ y → is_letter v ≡ true
unfolding is_letter
letter_covered b y v h l k = inside_covered b y v letters h l k

pub latin-first : covers 216 246 letters ≡ true
unfolding letters part1 part2 part3 part4
latin-first = refl

pub latin-second : covers 248 705 letters ≡ true
unfolding letters part1 part2 part3 part4
latin-second = refl

pub greek-first : covers 910 929 letters ≡ true
unfolding letters part1 part2 part3 part4
greek-first = refl

pub greek-second : covers 931 1013 letters ≡ true
unfolding letters part1 part2 part3 part4
greek-second = refl

pub cyrillic : covers 1015 1153 letters ≡ true
unfolding letters part1 part2 part3 part4
cyrillic = refl

pub han : covers 19968 42124 letters ≡ true
unfolding letters part1 part2 part3 part4
han = refl

pub hangul : covers 44032 55203 letters ≡ true
unfolding letters part1 part2 part3 part4
hangul = refl
