-- What is not read, and why.
-- Assumes nothing.
use Rattle.std.specs.Prelude.{ℕ, ◌≤◌, ◌<◌, ◌≡◌, refl, Bool, true, false, cond, List, length, Err, None}
use Rattle.std.proofs.Common.{lt-ltb, le-ltb}
use Rattle.text.specs.Part.{ascii}
use Rattle.path.specs.declared.Refusal.TheVariants.{TooLong, NotAscii}
use Rattle.path.specs.Kinds.{kinds}
use Rattle.path.specs.Reading.{Reading}
use Rattle.path.specs.Read.{read_first, read_path, why_not}

pub too_long_when : (t : List ℕ) → 4096 < length t → Err TooLong ≡ read_path t
unfolding read_path
too_long_when t long = rw (lt-ltb 4096 (length t) long)

pub no_path : (t : List ℕ) → length t ≤ 4096 → None ≡ read_first kinds t → Err (cond (ascii t) (why_not t) NotAscii) ≡ read_path t
unfolding read_path
no_path t short h = rw (le-ltb 4096 (length t) short, ← h) (go (ascii t))
  where
    go : (v : Bool) → ◌≡◌ {A = Reading} (Err (cond v (why_not t) NotAscii)) (cond v (Err (why_not t)) (Err NotAscii))
    go true = refl
    go false = refl
