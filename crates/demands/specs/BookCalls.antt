-- Demand 3 of the generated contracts of `hp_book_write`, `hp_book_remove` and `hp_book_lookup` and of the lenient three, and what each of them
-- does on all bytes: what they may do, as their sources have it, is what `Permitted` has.
-- Assumes nothing.
use Rattle.std.specs.Prelude.{◌≡◌, List, [], ℕ, length, take}
use Rattle.std.proofs.Common.{subst}
use contract.Lifetimes.{Lfts}
use borrow.Fn.World.{ArgsD, ResD}
use borrow.Fn.Kinds.{ended_of}
use denote.Triple.Clauses.{AtExit}
use Rattle.text.specs.declared.Written.{Written}
use Rattle.book_records.specs.Act.{Seen}
use Rattle.book_records.specs.declared.Manner.{Manner}
use Rattle.book_records.specs.declared.Manner.TheVariants.{Plain, Lenient}
use Rattle.book_records.specs.Calls.{Asked, to_write, to_remove, to_look, Call, look, meaning}
use Rattle.book.specs.Book.{Current}
use Rattle.book.specs.Outcome.{Found, Recorded, Removed, Looked}
use Rattle.demands.specs.Permitted.{Permitted}
use Rattle.demands.specs.Demand3.{Taken, Demand3}
use Rattle.demands.specs.Demand3Laws as laws
use Rattle.demands.specs.EachCall.{EachCall}
use Rattle.demands.specs.EachCallLaws as each
use Rattle.hostpath.specs.contracts.hp_book_write as w
use Rattle.hostpath.proofs.hp_book_write.Kinds as wk
use Rattle.hostpath.proofs.hp_book_write.Reads as wr
use Rattle.hostpath.proofs.hp_book_write_lenient.Reads as wro
use Rattle.hostpath.specs.contracts.hp_book_remove as d
use Rattle.hostpath.proofs.hp_book_remove.Kinds as dk
use Rattle.hostpath.proofs.hp_book_remove.Reads as dr
use Rattle.hostpath.proofs.hp_book_remove_lenient.Reads as dro
use Rattle.hostpath.specs.contracts.hp_book_lookup as l
use Rattle.hostpath.proofs.hp_book_lookup.Kinds as lk
use Rattle.hostpath.proofs.hp_book_lookup.Reads as lr
use Rattle.hostpath.proofs.hp_book_lookup_lenient.Reads as lro

-- what the contract of either manner ensures; both have the same parameters
abbrev pub WritePost : Manner → (κs : Lfts 3) → ArgsD w.signature κs → ResD w.signature κs → AtExit (ended_of 3 wk.ps wk.r) κs → Type 0
WritePost Plain κs a r s = wr.Post κs a r s
WritePost Lenient κs a r s = wro.Post κs a r s

abbrev pub RemovePost : Manner → (κs : Lfts 2) → ArgsD d.signature κs → ResD d.signature κs → AtExit (ended_of 2 dk.ps dk.r) κs → Type 0
RemovePost Plain κs a r s = dr.Post κs a r s
RemovePost Lenient κs a r s = dro.Post κs a r s

abbrev pub LookPost : Manner → (κs : Lfts 3) → ArgsD l.signature κs → ResD l.signature κs → AtExit (ended_of 3 lk.ps lk.r) κs → Type 0
LookPost Plain κs a r s = lr.Post κs a r s
LookPost Lenient κs a r s = lro.Post κs a r s

-- one call of each function: its buffers before and after, its result, and what its contract ensures
pub record Writes (m : Manner) (b : List ℕ) (o : ℕ) (t v : List ℕ) (r : ℕ) (b₁ : List ℕ) : Type 0 where
  pub lifetimes : Lfts 3
  pub args : ArgsD w.signature lifetimes
  pub result : ResD w.signature lifetimes
  pub exits : AtExit (ended_of 3 wk.ps wk.r) lifetimes
  pub book_in : args.0.now ≡ b
  pub owner_in : args.1.0 ≡ o
  pub text_in : args.1.1.0.now ≡ t
  pub value_in : args.1.1.1.0.now ≡ v
  pub number_out : result ≡ r
  pub book_out : exits.0.now ≡ b₁
  pub ensures : WritePost m lifetimes args result exits

pub record Removes (m : Manner) (b : List ℕ) (o : ℕ) (t : List ℕ) (r : ℕ) (b₁ : List ℕ) : Type 0 where
  pub lifetimes : Lfts 2
  pub args : ArgsD d.signature lifetimes
  pub result : ResD d.signature lifetimes
  pub exits : AtExit (ended_of 2 dk.ps dk.r) lifetimes
  pub book_in : args.0.now ≡ b
  pub owner_in : args.1.0 ≡ o
  pub text_in : args.1.1.0.now ≡ t
  pub number_out : result ≡ r
  pub book_out : exits.0.now ≡ b₁
  pub ensures : RemovePost m lifetimes args result exits

pub record Looks (m : Manner) (b : List ℕ) (o : ℕ) (t out : List ℕ) (r : Written) (out₁ : List ℕ) : Type 0 where
  pub lifetimes : Lfts 3
  pub args : ArgsD l.signature lifetimes
  pub result : ResD l.signature lifetimes
  pub exits : AtExit (ended_of 3 lk.ps lk.r) lifetimes
  pub book_in : args.0.now ≡ b
  pub owner_in : args.1.0 ≡ o
  pub text_in : args.1.1.0.now ≡ t
  pub out_in : args.1.1.1.0.now ≡ out
  pub answer_out : result ≡ r
  pub out_out : exits.1.1.1.0.now ≡ out₁
  pub ensures : LookPost m lifetimes args result exits

pub wrote : (m : Manner) (b : List ℕ) (o : ℕ) (t v : List ℕ) (r : ℕ) (b₁ : List ℕ) → Writes m b o t v r b₁ → Recorded Current m b o t v r b₁
wrote m b o t v r b₁ x = rw (x.book_in, x.owner_in, x.text_in, x.value_in, x.number_out, x.book_out) at (go m x.ensures)
  where
    go : (n : Manner) → WritePost n x.lifetimes x.args x.result x.exits
        → Recorded Current n x.args.0.now x.args.1.0 x.args.1.1.0.now x.args.1.1.1.0.now x.result x.exits.0.now
    go Plain p = p
    go Lenient p = p

pub removed : (m : Manner) (b : List ℕ) (o : ℕ) (t : List ℕ) (r : ℕ) (b₁ : List ℕ) → Removes m b o t r b₁ → Removed Current m b o t r b₁
removed m b o t r b₁ x = rw (x.book_in, x.owner_in, x.text_in, x.number_out, x.book_out) at (go m x.ensures)
  where
    go : (n : Manner) → RemovePost n x.lifetimes x.args x.result x.exits
        → Removed Current n x.args.0.now x.args.1.0 x.args.1.1.0.now x.result x.exits.0.now
    go Plain p = p
    go Lenient p = p

pub looked : (m : Manner) (b : List ℕ) (o : ℕ) (t out : List ℕ) (r : Written) (out₁ : List ℕ) → Looks m b o t out r out₁ → Looked Current m b o t out r out₁
looked m b o t out r out₁ x = rw (x.book_in, x.owner_in, x.text_in, x.out_in, x.answer_out, x.out_out) at (go m x.ensures)
  where
    go : (n : Manner) → LookPost n x.lifetimes x.args x.result x.exits
        → Looked Current n x.args.0.now x.args.1.0 x.args.1.1.0.now x.args.1.1.1.0.now x.result x.exits.1.1.1.0.now
    go Plain p = p
    go Lenient p = p

-- ---- demand 3
-- a lookup with that much room, in some buffer, and what it gives
pub record LooksIn (m : Manner) (b : List ℕ) (o : ℕ) (t : List ℕ) (room : ℕ) (a : Seen) : Type 0 where
  pub out : List ℕ
  pub out₁ : List ℕ
  pub size : length out ≡ room
  pub written : Written
  pub looks : Looks m b o t out written out₁
  pub number : a.number ≡ written.refusal
  pub gives : a.value ≡ take written.length out₁

abbrev pub DoesTo : Manner → Asked → List ℕ → ℕ → List ℕ → Seen → List ℕ → Type 0
DoesTo m (to_write v) b o t a b₁ = Writes m b o t v a.number b₁ × (a.value ≡ [])
DoesTo m to_remove b o t a b₁ = Removes m b o t a.number b₁ × (a.value ≡ [])
DoesTo m (to_look room) b o t a b₁ = LooksIn m b o t room a × (b₁ ≡ b)

abbrev pub Does : List ℕ → Call → Seen → List ℕ → Type 0
Does b c a b₁ = DoesTo c.manner c.asked b c.owner c.text a b₁

pub permits_to : (m : Manner) (q : Asked) (b : List ℕ) (o : ℕ) (t : List ℕ) (a : Seen) (b₁ : List ℕ) → DoesTo m q b o t a b₁ → Permitted b (record { manner = m; owner = o; text = t; asked = q }) a b₁
permits_to m (to_write v) b o t a b₁ x = (wrote m b o t v a.number b₁ x.0, x.1)
permits_to m to_remove b o t a b₁ x = (removed m b o t a.number b₁ x.0, x.1)
permits_to m (to_look room) b o t a b₁ x =
    let y = x.0 in
    let f : Looked Current m b o t y.out y.written y.out₁ = looked m b o t y.out y.written y.out₁ y.looks in
    (record { out = y.out; out₁ = y.out₁; size = y.size; written = y.written; found = subst (λ (n : ℕ). Found Current b (meaning (look m o t n)) y.out y.written y.out₁) y.size f; number = y.number; gives = y.gives }, x.1)

pub permits : (b : List ℕ) (c : Call) (a : Seen) (b₁ : List ℕ) → Does b c a b₁ → Permitted b c a b₁
permits b c a b₁ y = permits_to c.manner c.asked b c.owner c.text a b₁ y

-- what each of the six functions does on all bytes
pub each_call : EachCall Does
each_call = each.each_call Does permits

-- THE THEOREM: demand 3 of the six functions, in one list
pub demand3 : (x : Taken Does) → Demand3 Does x
demand3 x = laws.demand3 Does permits x
