-- `write_reason` meets its contract: each arm by the case that it is of.
use mathlib.Core.Path.{◌≡◌, subst}
use mathlib.Core.List.{List}
use Prim.Native.Nat.{ℕ, ◌+◌, ◌≤◌}
use lib.ListN.{length}
use Rattle.text.specs.Put.{put}
use Rattle.path.specs.declared.Refusal.{Refusal}
use Rattle.ask.specs.Answer.{reason}
use Rattle.ask.proofs.write_reason.Goals as goal

-- there is room for the reason, and it was written: of a refusal w that is v
module _ (out : List ℕ) (at : ℕ) {w v : Refusal} (e : w ≡ v) where
  room : at + length (reason w) ≤ length out → at + length (reason v) ≤ length out
  room h = subst (λ u. at + length (reason u) ≤ length out) e h

  done : {r : ℕ} {o : List ℕ} → (r ≡ at + length (reason v)) × (o ≡ put out at (reason v)) → (r ≡ at + length (reason w)) × (o ≡ put out at (reason w))
  done h = rw e h

pub write_spoken-requires : goal.write_spoken-requires
unfolding reason
write_spoken-requires c = room c.args.out.now c.args.at c.in-TooLong.is c.requires

pub write_spoken-requires-in-NotAscii : goal.write_spoken-requires-in-NotAscii
unfolding reason
write_spoken-requires-in-NotAscii c = room c.args.out.now c.args.at c.in-NotAscii.is c.requires

pub write_spoken-requires-in-NotAPath : goal.write_spoken-requires-in-NotAPath
unfolding reason
write_spoken-requires-in-NotAPath c = room c.args.out.now c.args.at c.in-NotAPath.is c.requires

pub write_placed-requires : goal.write_placed-requires
unfolding reason
write_placed-requires c = room c.args.out.now c.args.at c.in-NoDigits.is c.requires

pub write_placed-requires-in-NotADigit : goal.write_placed-requires-in-NotADigit
unfolding reason
write_placed-requires-in-NotADigit c = room c.args.out.now c.args.at c.in-NotADigit.is c.requires

pub write_placed-requires-in-TooLarge : goal.write_placed-requires-in-TooLarge
unfolding reason
write_placed-requires-in-TooLarge c = room c.args.out.now c.args.at c.in-TooLarge.is c.requires

pub returns-in-TooLong : goal.returns-in-TooLong
unfolding reason
returns-in-TooLong c =
    let p = done c.args.out.now c.args.at c.in-TooLong.is (c.write_spoken.ensures.value, c.write_spoken.ensures.out_after) in record { value = p.0; out_after = p.1 }

pub returns-in-NotAscii : goal.returns-in-NotAscii
unfolding reason
returns-in-NotAscii c =
    let p = done c.args.out.now c.args.at c.in-NotAscii.is (c.write_spoken-in-NotAscii.ensures.value, c.write_spoken-in-NotAscii.ensures.out_after) in record { value = p.0; out_after = p.1 }

pub returns-in-NotAPath : goal.returns-in-NotAPath
unfolding reason
returns-in-NotAPath c =
    let p = done c.args.out.now c.args.at c.in-NotAPath.is (c.write_spoken-in-NotAPath.ensures.value, c.write_spoken-in-NotAPath.ensures.out_after) in record { value = p.0; out_after = p.1 }

pub returns-in-NoDigits : goal.returns-in-NoDigits
unfolding reason
returns-in-NoDigits c =
    let p = done c.args.out.now c.args.at c.in-NoDigits.is (c.write_placed.ensures.value, c.write_placed.ensures.out_after) in record { value = p.0; out_after = p.1 }

pub returns-in-NotADigit : goal.returns-in-NotADigit
unfolding reason
returns-in-NotADigit c =
    let p = done c.args.out.now c.args.at c.in-NotADigit.is (c.write_placed-in-NotADigit.ensures.value, c.write_placed-in-NotADigit.ensures.out_after) in record { value = p.0; out_after = p.1 }

pub returns-in-TooLarge : goal.returns-in-TooLarge
unfolding reason
returns-in-TooLarge c =
    let p = done c.args.out.now c.args.at c.in-TooLarge.is (c.write_placed-in-TooLarge.ensures.value, c.write_placed-in-TooLarge.ensures.out_after) in record { value = p.0; out_after = p.1 }
