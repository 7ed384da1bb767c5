-- What demands 2 and 3 and isolation refuse: useless readers, renderers and writers of keys, and useless books, each with the line that it breaks.
-- And that demand 3 is not empty: every list has a run.
-- Assumes nothing.
use Rattle.std.specs.Prelude.{ℕ, zero, suc, ◌-◌, ◌*◌, ◌≤◌, ◌<◌, ◌≡◌, Bool, true, false, ◌⊎◌, List, [], ◌∷◌, ◌++◌, eqb, length, get_or, take, Err}
use Rattle.std.proofs.Math.Path.{refl, ap}
use Rattle.std.proofs.Common.{sym, subst, ◌∙◌, inl, inr, ⊎_elim, arith, eqb-true}
use Rattle.std.proofs.Math.Bool.{and-false}
use Rattle.std.proofs.Math.Option.{Option, none, some}
use Rattle.text.specs.Bytes.{bytes}
use Rattle.text.specs.Put.{text}
use Rattle.text.specs.declared.Fault.{Fault}
use Rattle.text.specs.declared.Written.{Written}
use Rattle.path.specs.declared.Pair.{Pair}
use Rattle.book_clear.specs.declared.Count.{Count}
use Rattle.path.specs.declared.Path.{Path}
use Rattle.path.specs.declared.Path.TheVariants.{Ports, UpgradeClientState}
use Rattle.path.specs.Reading.{Read}
use Rattle.path.specs.declared.Refusal.TheVariants.{NotAPath}
use Rattle.path.specs.declared.name.Name.{Name}
use Rattle.path.specs.Text.{join_by}
use Rattle.path.specs.Kinds.{carried, kinds}
use Rattle.path.specs.Read.{read_path, key_of, name_fault, parts_of, show, render, render_path}
use Rattle.path.specs.View.{kind_of}
use Rattle.path.specs.ReadLaws.{reads_one}
use Rattle.path.specs.BackLaws.{exact-renders, read_short, read-ascii, read_reads}
use Rattle.demands.specs.Cases.{Outcome, gives, cases_hold}
use Rattle.runs.specs.Runs.{Runs, stop, next, before}
use Rattle.runs.specs.Without.{without, answers_without}
use Rattle.book_form.specs.declared.Quotas.{Quotas}
use Rattle.book_form.specs.Form.{layout, slots, zeros}
use Rattle.book_form.specs.FormLaws.{length-zeros}
use Rattle.text.specs.Order.{cmp}
use Rattle.text.specs.OrderLaws.{cmp_self}
use Rattle.book_records.specs.Records.{Key, get, put}
use Rattle.book_records.specs.Act.{Rec, writes, act, says, done, count_by, Seen, seen}
use Rattle.book_records.specs.declared.Manner.TheVariants.{Plain}
use Rattle.book_records.specs.Calls.{Asked, to_write, to_remove, to_look, Call, write, remove, look, is_owner, owner_of, PathOf, meaning, ValueFits, kind_in, is_retired}
use Rattle.book.specs.Book.{Current, acts}
use Rattle.book.specs.Outcome.{quotas}
use Rattle.demands.specs.Held.{Holds, is_write, writes_in, free, Room, ProperBook}
use Rattle.demands.specs.Permitted.{Permitted}
use Rattle.book_records.specs.CallLaws.{writing-means, one-path}
use Rattle.demands.specs.HeldLaws.{one-held}
use Rattle.demands.specs.CountLaws.{count_right}
use Rattle.demands.specs.PermittedLaws.{permitted-book, permitted_exists, row-says}
use Rattle.demands.specs.MachineLaws.{keeps-book}
use Rattle.demands.specs.Told.{told}
use Rattle.demands.specs.Rendered.{Fine}
use Rattle.demands.specs.Demand2.{Demand2}
use Rattle.demands.specs.Demand3.{Taken, AcceptedAt, Demand3}
use Rattle.demands.specs.Isolation.{call, Reply, seen as reply, pair, went, called, Any, Alone, Isolation}

-- every list of calls on every book has a run
pub run_exists : (b : List ℕ) → ProperBook b → (cs : List Call) → (rs : List Seen) × (b₁ : List ℕ) × Runs Permitted b cs rs b₁
run_exists b x [] = ([], b, stop)
run_exists b x (c ∷ cs) =
    let p = permitted_exists b c x in
    let r = run_exists p.1 (keeps-book b c p.0 p.1 p.2 x) cs in
    (p.0 ∷ r.0, r.1, next p.2 r.2)

-- ---- a book of two slots without records, one for each owner, a path and a value
abbrev ones : Quotas
ones = quotas 1 1

abbrev two : List ℕ
two = layout Current 2 ones []

empty : ProperBook two
unfolding count_by
empty = record { slots = 2; extra = ones; records = []; least = omega arith; most = omega arith; fit = tt; exact = tt; sorted = tt; quotas = omega arith; within = λ o. omega arith; bytes = refl }

-- it has room for a list with one write, where that is owner 1's
one_room : (cs : List Call) → writes_in 1 cs ≡ 1 → ((o : ℕ) → eqb 1 o ≡ false → writes_in o cs ≡ 0) → Room empty cs
unfolding empty count_by
one_room cs e f o = go (eqb 1 o) refl
  where
    go : (v : Bool) → eqb 1 o ≡ v → writes_in o cs ≤ free empty o
    go true h = let z : 1 ≡ o = eqb-true 1 o h in rw (← z) (omega (arith, e))
    go false h = omega (arith, f o h)

no_records : empty.records ≡ []
unfolding empty
no_records = refl

abbrev port : List ℕ
port = bytes "ports/ab"

abbrev port_path : Path
port_path = Ports (record { port = record { start = 6; len = 2 } })

port_read : read_path port ≡ Read port_path true
port_read = let q : gives (read_path port) ≡ gives (Read port_path true) = ap (λ (l : List Outcome). get_or l 7 (gives (Err NotAPath))) cases_hold in cc

port_key : key_of port ≡ text port
unfolding key_of
port_key = rw (port_read, exact-renders port port_path port_read)

abbrev value : List ℕ
value = zeros 32

-- the write of that value under that path, and what it does on the empty book
abbrev own : Key
own = 1 ∷ port

abbrev W : Call
W = write Plain 1 port value

sized : ValueFits value
sized = record { least = omega (arith, length-zeros 32); most = omega (arith, length-zeros 32) }

-- the path of each call of owner 1's on that text
own_path : (q : Asked) → PathOf (record { manner = Plain; owner = 1; text = port; asked = q }) own
own_path q = record { rendering = port; known = refl; renders = port_key; is = refl }

-- and it is not of kind 8
port_live : (o : ℕ) → is_retired (o ∷ port) ≡ false
unfolding is_retired kind_in
port_live o = rw port_read

write_means : meaning W ≡ writes own value
write_means = writing-means W own value (record { asked = refl; key = record { path = own_path (to_write value); spelled = port_key; fits = omega arith }; not_retired = port_live 1; size = sized })

-- the write is accepted there, and the record then stands in the book
abbrev filled : List ℕ
filled = layout Current 2 ones ((own, value) ∷ [])

acted : acts empty (meaning W) ≡ (done, (own, value) ∷ [])
unfolding empty act get put count_by
acted = rw write_means

pub writes_port : (a : Seen) (b₁ : List ℕ) → Permitted two W a b₁ → (a ≡ seen done) × (b₁ ≡ filled)
unfolding empty
writes_port a b₁ p =
    let q = permitted-book two W a b₁ empty p in
    let e = acted in
    (q.0 ∙ ap (λ (y : _). seen y.0) e, q.1 ∙ ap (λ (y : _). layout Current 2 ones y.1) e)

port_written : Permitted two W (seen done) filled
port_written =
    let p = permitted_exists two W empty in
    let q = writes_port p.0 p.1 p.2 in
    subst (λ (a : Seen). Permitted two W a filled) q.0 (subst (λ (b : List ℕ). Permitted two W p.0 b) q.1 p.2)

none_before : (k : Key) (v : List ℕ) → Holds two k (some v) → ⊥
unfolding empty get
none_before k v h = let e : none ≡ some v = one-held (record { book = empty; is = refl }) h in let z : ◌≡◌ {A = ℕ} 0 1 = cc in omega arith

-- ---- a book that ignores writes: it answers as it should, and leaves the bytes. It breaks `last-accepted`
pub record Ignores (b : List ℕ) (c : Call) (a : Seen) (b₁ : List ℕ) : Type 0 where
  pub meant : List ℕ
  pub answered : Permitted b c a meant
  pub write_ignored : is_write c ≡ 1 → b₁ ≡ b
  pub other_obeyed : is_write c ≡ 0 → b₁ ≡ meant

write_lost : Ignores two W (seen done) two
write_lost = record { meant = filled; answered = port_written; write_ignored = λ e. refl; other_obeyed = λ e. absurd (omega (arith, e)) }

abbrev ignored : Taken Ignores
ignored =
    record {
      calls = W ∷ [];
      start = two;
      book = empty;
      room = one_room (W ∷ []) refl (λ o e. rw (e, and-false (is_owner o)));
      answers = seen done ∷ [];
      end = two;
      run = next write_lost stop;
    }

pub ignores_refused : ((x : Taken Ignores) → Demand3 Ignores x) → ⊥
ignores_refused h = none_before own value ((h ignored).last_accepted own 0 (record { here = here; none_later = later }))
  where
    here : AcceptedAt Ignores ignored own 0
    here = record { made = record { call = W; answer = seen done; there = refl; said = refl }; path = own_path (to_write value); accepted = (tt, refl) }

    later : (j : ℕ) → 0 < j → AcceptedAt Ignores ignored own j → ⊥
    later zero l u = omega arith
    later (suc j) l u = let e = u.made.there in let z : ◌≡◌ {A = ℕ} 0 1 = cc in omega arith

-- ---- a book that refuses every write, with the number r. It breaks `refused-exactly`
pub record Refuses (r : ℕ) (b : List ℕ) (c : Call) (a : Seen) (b₁ : List ℕ) : Type 0 where
  pub write_refused : is_write c ≡ 1 → (a.number ≡ r) × (b₁ ≡ b)
  pub other_obeyed : is_write c ≡ 0 → Permitted b c a b₁

module _ (r : ℕ) (nz : r ≡ 0 → ⊥) where
  abbrev no : Seen
  no = record { number = r; value = [] }

  write_away : Refuses r two W no two
  write_away = record { write_refused = λ e. (refl, refl); other_obeyed = λ e. absurd (omega (arith, e)) }

  abbrev turned_away : Taken (Refuses r)
  turned_away =
      record {
        calls = W ∷ [];
        start = two;
        book = empty;
        room = one_room (W ∷ []) refl (λ o e. rw (e, and-false (is_owner o)));
        answers = no ∷ [];
        end = two;
        run = next write_away stop;
      }

  pub refuses_refused : ((x : Taken (Refuses r)) → Demand3 (Refuses r) x) → ⊥
  unfolding before
  refuses_refused h =
      let row = ((h turned_away).refused_exactly 0 (record { call = W; answer = no; there = refl; said = refl }) r nz).0 refl in
      nz (sym (row-says empty W row) ∙ ap (λ (y : _). (seen y.0).number) acted)

-- ---- a book that obeys its first call, and later only says 0. It breaks `last-accepted`: the removal is not done
pub data Once (b : List ℕ) (c : Call) (a : Seen) (b₁ : List ℕ) : Type 0 where
  first_call : (x : ProperBook b) → x.records ≡ [] → Permitted b c a b₁ → Once b c a b₁
  later_call : (x : ProperBook b) → (x.records ≡ [] → ⊥) → a ≡ seen done → b₁ ≡ b → Once b c a b₁

one_within : (o : ℕ) → count_by owner_of o ((own, value) ∷ []) ≤ Current.quota ones 2 o
unfolding count_by
one_within o = go (eqb 1 o) refl
  where
    go : (v : Bool) → eqb 1 o ≡ v → count_by owner_of o ((own, value) ∷ []) ≤ Current.quota ones 2 o
    go true h = let z : 1 ≡ o = eqb-true 1 o h in rw (← z) (omega arith)
    go false h = rw h (omega arith)

one_record : ProperBook filled
one_record =
    record {
      slots = 2;
      extra = ones;
      records = (own, value) ∷ [];
      least = omega arith;
      most = omega arith;
      fit = ((omega arith, omega arith, sized), tt);
      exact = ((refl, port_key), tt);
      sorted = (tt, tt);
      quotas = omega arith;
      within = one_within;
      bytes = refl;
    }

has_record : one_record.records ≡ [] → ⊥
unfolding one_record
has_record e = let z : ◌≡◌ {A = ℕ} 0 1 = cc in omega arith

still_there : Holds filled own none → ⊥
unfolding one_record get
still_there h = let e : some value ≡ none = one-held (record { book = one_record; is = rw (cmp_self own) }) h in let z : ◌≡◌ {A = ℕ} 0 1 = cc in omega arith

not_empty : Holds filled own (some []) → ⊥
unfolding one_record get
not_empty h = let e : some value ≡ some [] = one-held (record { book = one_record; is = rw (cmp_self own) }) h in let z : ◌≡◌ {A = ℕ} 0 1 = cc in omega arith

abbrev obeyed_once : Taken Once
obeyed_once =
    record {
      calls = W ∷ remove Plain 1 port ∷ [];
      start = two;
      book = empty;
      room = one_room (W ∷ remove Plain 1 port ∷ []) refl (λ o e. rw (e, and-false (is_owner o)));
      answers = seen done ∷ seen done ∷ [];
      end = filled;
      run = next (first_call empty no_records port_written) (next (later_call one_record has_record refl refl) stop);
    }

pub once_refused : ((x : Taken Once) → Demand3 Once x) → ⊥
once_refused h = still_there ((h obeyed_once).last_accepted own 1 (record { here = here; none_later = later }))
  where
    here : AcceptedAt Once obeyed_once own 1
    here = record { made = record { call = remove Plain 1 port; answer = seen done; there = refl; said = refl }; path = own_path to_remove; accepted = (tt, refl) }

    later : (j : ℕ) → 1 < j → AcceptedAt Once obeyed_once own j → ⊥
    later zero l u = omega arith
    later (suc zero) l u = omega arith
    later (suc (suc j)) l u = let e = u.made.there in let z : ◌≡◌ {A = ℕ} 0 1 = cc in omega arith

-- it breaks `lookup-gives` too: the lookup after the write gives nothing of what was written
abbrev asked_once : Taken Once
asked_once =
    record {
      calls = W ∷ look Plain 1 port 64 ∷ [];
      start = two;
      book = empty;
      room = one_room (W ∷ look Plain 1 port 64 ∷ []) refl (λ o e. rw (e, and-false (is_owner o)));
      answers = seen done ∷ seen done ∷ [];
      end = filled;
      run = next (first_call empty no_records port_written) (next (later_call one_record has_record refl refl) stop);
    }

pub once_gives_refused : ((x : Taken Once) → Demand3 Once x) → ⊥
unfolding before
once_gives_refused h =
    let g = (h asked_once).lookup_gives 1 (record { call = look Plain 1 port 64; answer = seen done; there = refl; said = refl }) tt refl in
    not_empty (subst (λ (k : Key). Holds filled k (some [])) (one-path (look Plain 1 port 64) g.0 own g.1 (own_path (to_look 64))) g.2)

-- ---- a book whose count is not the number of its keys: the header says one more. It breaks `stays-a-book`
pub record Miscounts (b : List ℕ) (c : Call) (a : Seen) (b₁ : List ℕ) : Type 0 where
  pub meant : List ℕ
  pub answered : Permitted b c a meant
  pub book : ProperBook meant
  pub left : b₁ ≡ Current.header book.extra (suc (length book.records)) ++ (slots Current book.records ++ zeros (Current.width * (book.slots - length book.records)))

abbrev miscounted : Taken Miscounts
miscounted =
    record {
      calls = W ∷ [];
      start = two;
      book = empty;
      room = one_room (W ∷ []) refl (λ o e. rw (e, and-false (is_owner o)));
      answers = seen done ∷ [];
      end = Current.header one_record.extra (suc (length one_record.records)) ++ (slots Current one_record.records ++ zeros (Current.width * (one_record.slots - length one_record.records)));
      run = next (record { meant = filled; answered = port_written; book = one_record; left = refl }) stop;
    }

pub miscounts_refused : ((x : Taken Miscounts) → Demand3 Miscounts x) → ⊥
miscounts_refused h =
    let e = count_right one_record.extra (suc (length one_record.records)) (Current.width * (one_record.slots - length one_record.records)) one_record.records one_record.fit one_record.exact (h miscounted).stays_a_book in
    omega (arith, e)

-- ---- a book in which one owner's writes take the other's slots: FULL is given where the whole count equals the number of slots. It breaks
-- `same-answers` of isolation
abbrev all_full : ℕ → Key → List Rec → Bool
all_full C k s = eqb (length s) C

pub record Takes (b : List ℕ) (c : Call) (a : Seen) (b₁ : List ℕ) : Type 0 where
  pub slots : ℕ
  pub extra : Quotas
  pub records : List Rec
  pub bytes : b ≡ layout Current slots extra records
  pub answered : a ≡ seen (act (all_full slots) (meaning c) records).0
  pub left : b₁ ≡ layout Current slots extra (act (all_full slots) (meaning c) records).1

-- a book of one slot, which is owner 2's, and the write of each owner
abbrev second : Quotas
second = quotas 0 1

abbrev one : List ℕ
one = layout Current 1 second []

one_slot : ProperBook one
unfolding count_by
one_slot = record { slots = 1; extra = second; records = []; least = omega arith; most = omega arith; fit = tt; exact = tt; sorted = tt; quotas = omega arith; within = λ o. omega arith; bytes = refl }

abbrev other : Call
other = write Plain 2 port value

other_means : meaning other ≡ writes (2 ∷ port) value
other_means = writing-means other (2 ∷ port) value (record { asked = refl; key = record { path = record { rendering = port; known = refl; renders = port_key; is = refl }; spelled = port_key; fits = omega arith }; not_retired = port_live 2; size = sized })

abbrev taken_slot : List ℕ
taken_slot = layout Current 1 second ((own, value) ∷ [])

-- owner 1's write is accepted, and then owner 2's refused with 11; alone it is accepted
takes_slot : Takes one W (seen done) taken_slot
unfolding act get put
takes_slot = record { slots = 1; extra = second; records = []; bytes = refl; answered = rw write_means; left = rw write_means }

no_slot_left : Takes taken_slot other (seen (says 11)) taken_slot
unfolding act get put cmp
no_slot_left = record { slots = 1; extra = second; records = (own, value) ∷ []; bytes = refl; answered = rw other_means; left = rw other_means }

own_slot : Takes one other (seen done) (layout Current 1 second ((2 ∷ port, value) ∷ []))
unfolding act get put
own_slot = record { slots = 1; extra = second; records = []; bytes = refl; answered = rw other_means; left = rw other_means }

-- no call of `oldest` is made, and no clearing
abbrev Silent : List ℕ → ℕ → List ℕ → Pair → Type 0
Silent b o client p = ⊥

abbrev Idle : List ℕ → ℕ → List ℕ → ℕ → Count → List ℕ → Type 0
Idle b o client keep n b₁ = ⊥

abbrev shared : Any Takes Silent Idle
shared =
    record {
      events = call W ∷ call other ∷ [];
      start = one;
      book = one_slot;
      replies = reply (seen done) ∷ reply (seen (says 11)) ∷ [];
      end = taken_slot;
      run = next (called takes_slot) (next (called no_slot_left) stop);
    }

alone : Alone Takes Silent Idle shared 1
unfolding without
alone = record { replies = reply (seen done) ∷ []; end = layout Current 1 second ((2 ∷ port, value) ∷ []); run = next (called own_slot) stop }

first_number : List Reply → ℕ
first_number [] = 0
first_number (reply a ∷ rs) = a.number
first_number (pair p ∷ rs) = 0
first_number (went n ∷ rs) = n.refusal

pub takes_refused : ((x : Any Takes Silent Idle) (o : ℕ) → Isolation Takes Silent Idle x o) → ⊥
unfolding alone answers_without first_number
takes_refused h =
    let e : reply (seen (says 11)) ∷ [] ≡ reply (seen done) ∷ [] = (h shared 1).same_answers alone in
    let z : ◌≡◌ {A = ℕ} 11 0 = ap first_number e in
    omega arith

-- ---- a second text that reads, and two kinds without identifiers
abbrev upgrade : List ℕ
upgrade = bytes "/5/upgradedClient"

abbrev upgrade_path : Path
upgrade_path = UpgradeClientState (record { upgrade = record { start = 0; len = 0 }; height = record { 0 = 5 } })

upgrade_read : read_path upgrade ≡ Read upgrade_path true
upgrade_read = let q : gives (read_path upgrade) ≡ gives (Read upgrade_path true) = ap (λ (l : List Outcome). get_or l 12 (gives (Err NotAPath))) cases_hold in cc

abbrev Counter : ℕ → Type 0
Counter k = (k ≡ 1) ⊎ (k ≡ 2)

nameless : (n : Name) → ◌≡◌ {A = Option Name} none (some n) → ⊥
nameless n e = let z : ◌≡◌ {A = ℕ} 0 1 = cc in omega (arith, z)

counter_fine : (k : ℕ) → Counter k → Fine name_fault k (carried [] [] 0 0)
unfolding parts_of kinds
counter_fine k i = ⊎_elim (λ e. rw e ((omega arith, omega arith), λ n q. absurd (nameless n q), λ n q. absurd (nameless n q))) (λ e. rw e ((omega arith, omega arith), λ n q. absurd (nameless n q), λ n q. absurd (nameless n q))) i

counter_short : (k : ℕ) → Counter k → (length (render (parts_of k) (carried [] [] 0 0)) ≤ 4096) × (length (render (parts_of k) (carried [] [] 0 0)) ≤ length (zeros 64))
unfolding parts_of kinds render show join_by
counter_short k i = ⊎_elim (λ e. rw e (omega arith, omega (arith, length-zeros 64))) (λ e. rw e (omega arith, omega (arith, length-zeros 64))) i

counters_differ : render (parts_of 1) (carried [] [] 0 0) ≡ render (parts_of 2) (carried [] [] 0 0) → ⊥
unfolding parts_of kinds render show join_by
counters_differ e = let l = ap length e in omega (arith, l)

-- ---- demand 2: whatever the other functions are, these do not meet it
module _ (Reads : List ℕ → List ℕ → Fault → List ℕ → Type 0) (Renders : ℕ → List ℕ → List ℕ → ℕ → ℕ → List ℕ → Written → List ℕ → Type 0) (Keys : List ℕ → List ℕ → Written → List ℕ → Type 0) where
  -- a reader that refuses all texts, with whatever numbers. It breaks `when-read`, which has `done` for `ports/ab`
  abbrev pub RefusesTexts : Type 0
  RefusesTexts = (t out : List ℕ) (f : Fault) (out₁ : List ℕ) → Reads t out f out₁ → f.refusal ≡ 0 → ⊥

  port_done : Demand2 Reads Renders Keys → (f : Fault) (out₁ : List ℕ) → Reads port (zeros 26) f out₁ → f.refusal ≡ 0
  port_done d f out₁ c = (d.when_read port (zeros 26) f out₁ c).done.1 ((port_path, true, port_read), omega (arith, length-zeros 26))

  pub refuses_texts_refused : RefusesTexts → Demand2 Reads Renders Keys → ⊥
  refuses_texts_refused h d = let c = d.read_answers port (zeros 26) in h port (zeros 26) c.0 c.1 c.2 (port_done d c.0 c.1 c.2)

  -- one with a single fixed answer, whatever bytes it leaves. It breaks `when-read` or `clients`
  abbrev pub AnswersOne : Fault → Type 0
  AnswersOne one = (t out : List ℕ) (f : Fault) (out₁ : List ℕ) → Reads t out f out₁ → f ≡ one

  pub answers_one_refused : (one : Fault) → AnswersOne one → Demand2 Reads Renders Keys → ⊥
  answers_one_refused one h d =
      let c = d.read_answers port (zeros 26) in
      let e = d.read_answers (bytes "clients") (zeros 26) in
      let p : one.refusal ≡ 0 = ap (λ (f : Fault). f.refusal) (sym (h port (zeros 26) c.0 c.1 c.2)) ∙ port_done d c.0 c.1 c.2 in
      let q : one.refusal ≡ 3 = ap (λ (f : Fault). f.refusal) (sym (h (bytes "clients") (zeros 26) e.0 e.1 e.2) ∙ d.clients (zeros 26) e.0 e.1 e.2) in
      omega (arith, p, q)

  -- one that refuses what it has to, and tells the same 26 bytes of every text that it reads. It breaks `told-so`
  abbrev pub TellsOne : List ℕ → Type 0
  TellsOne w = (t out : List ℕ) (f : Fault) (out₁ : List ℕ) → Reads t out f out₁ → f.refusal ≡ 0 → take 26 out₁ ≡ w

  kind_told : (w : List ℕ) → TellsOne w → Demand2 Reads Renders Keys → (t : List ℕ) (p : Path) → read_path t ≡ Read p true → (told w).kind ≡ kind_of p
  kind_told w h d t p r =
      let c = d.read_answers t (zeros 26) in
      let z : c.0.refusal ≡ 0 = (d.when_read t (zeros 26) c.0 c.1 c.2).done.1 ((p, true, r), omega (arith, length-zeros 26)) in
      let s = d.told_so t (zeros 26) c.0 c.1 c.2 z in
      ap (λ (b : List ℕ). (told b).kind) (sym (h t (zeros 26) c.0 c.1 c.2 z)) ∙ s.2.kind_is ∙ ap kind_of (reads_one s.1 (read_reads t p true r))

  pub tells_one_refused : (w : List ℕ) → TellsOne w → Demand2 Reads Renders Keys → ⊥
  tells_one_refused w h d = omega (arith, kind_told w h d port port_path port_read, kind_told w h d upgrade upgrade_path upgrade_read)

  -- a renderer that refuses everything. It breaks `when-rendered`, which has `done` for kind 1
  abbrev pub RendersNothing : Type 0
  RendersNothing = (kind : ℕ) (one two : List ℕ) (a b : ℕ) (out : List ℕ) (x : Written) (out₁ : List ℕ) → Renders kind one two a b out x out₁ → x.refusal ≡ 0 → ⊥

  counter_done : (k : ℕ) → Counter k → Demand2 Reads Renders Keys → (x : Written) (out₁ : List ℕ) → Renders k [] [] 0 0 (zeros 64) x out₁ → x.refusal ≡ 0
  counter_done k i d x out₁ c = (d.when_rendered k [] [] 0 0 (zeros 64) x out₁ c).done.1 (counter_fine k i, (counter_short k i).0, (counter_short k i).1)

  pub renders_nothing_refused : RendersNothing → Demand2 Reads Renders Keys → ⊥
  renders_nothing_refused h d = let c = d.render_answers 1 [] [] 0 0 (zeros 64) in h 1 [] [] 0 0 (zeros 64) c.0 c.1 c.2 (counter_done 1 (inl refl) d c.0 c.1 c.2)

  -- one that writes the same text for every path. It breaks `rendered-so`
  abbrev pub RendersOne : List ℕ → Type 0
  RendersOne w = (kind : ℕ) (one two : List ℕ) (a b : ℕ) (out : List ℕ) (x : Written) (out₁ : List ℕ) → Renders kind one two a b out x out₁ → x.refusal ≡ 0 → take x.length out₁ ≡ w

  text_written : (w : List ℕ) → RendersOne w → Demand2 Reads Renders Keys → (k : ℕ) → Counter k → w ≡ render (parts_of k) (carried [] [] 0 0)
  text_written w h d k i =
      let c = d.render_answers k [] [] 0 0 (zeros 64) in
      let z = counter_done k i d c.0 c.1 c.2 in
      sym (h k [] [] 0 0 (zeros 64) c.0 c.1 c.2 z) ∙ (d.rendered_so k [] [] 0 0 (zeros 64) c.0 c.1 c.2 z).shown

  pub renders_one_refused : (w : List ℕ) → RendersOne w → Demand2 Reads Renders Keys → ⊥
  renders_one_refused w h d = counters_differ (sym (text_written w h d 1 (inl refl)) ∙ text_written w h d 2 (inr refl))

  -- a writer of keys that refuses every text. It breaks `when-keyed`, which has `done` for `ports/ab`
  abbrev pub KeysNothing : Type 0
  KeysNothing = (t out : List ℕ) (x : Written) (out₁ : List ℕ) → Keys t out x out₁ → x.refusal ≡ 0 → ⊥

  pub keys_nothing_refused : KeysNothing → Demand2 Reads Renders Keys → ⊥
  keys_nothing_refused h d =
      let c = d.key_answers port (zeros 64) in
      let fits : length (render_path port port_path) ≤ length (zeros 64) = omega (arith, length-zeros 64, ap length (exact-renders port port_path port_read)) in
      h port (zeros 64) c.0 c.1 c.2 ((d.when_keyed port (zeros 64) c.0 c.1 c.2).done.1 (read_short port port_path true port_read, read-ascii port port_path true port_read, (port_path, read_reads port port_path true port_read, fits)))
