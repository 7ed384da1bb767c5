-- Demand 2, sentence by sentence, of any functions. `Reads t out f out₁` says that the reader, given the text t and the buffer `out`, may answer f and
-- leave `out₁`; `Renders` says the same of rendering by kind, identifiers and numbers, and `Keys` of writing the key of a text, which is the rendering
-- of its reading. Then the theorem that the generated contracts of `hp_read` and `hp_walk`, `hp_render` and `hp_key` meet it, with names for their
-- arguments and buffers (PathCalls, Walk), and what holds of the functions below them.
-- Assumes nothing.
use Prim.Native.Nat.{ℕ, ◌≤◌, ◌<◌, ◌^◌, compare}
use Rattle.std.specs.Prelude.{◌≡◌, ◌↔◌, Bool, true, List, length, take, Some}
use Rattle.std.proofs.Common.{sym, ap, subst, ◌∙◌}
use Rattle.text.specs.Bytes.{bytes}
use Rattle.text.specs.Refusal.{not_ascii, not_a_path, no_room}
use Rattle.text.specs.declared.Fault.{Fault}
use Rattle.text.specs.declared.Written.{Written}
use Rattle.text.specs.Order.{then, cmp}
use Rattle.text.specs.Part.{ascii}
use Rattle.text.specs.Put.{text, done, answer, left}
use Rattle.identifiers.specs.Check.{fault_of, client, connection, port, channel, first, chars_of, prefix_length_of, general_of}
use Rattle.path.specs.declared.Path.{Path}
use Rattle.path.specs.Reading.{Read}
use Rattle.path.specs.Kinds.{Carried, carried, kinds}
use Rattle.path.specs.Read.{name_fault, fits_kind, parts_of, texts_of, render_path, render_of, read_path, key_of, reading_bytes, read_fault}
use Rattle.path.specs.Read as paths
use Rattle.path.specs.View.{kind_of, carried_of}
use Rattle.path.specs.Valid.{Valid, only, ReadsAs}
use Rattle.path.specs.Reads.{kind_at}
use Rattle.path.specs.Reads as rules
use Rattle.path.specs.ReadLaws as reads
use Rattle.path.specs.BackLaws.{rendered-valid}
use Rattle.path.specs.LengthLaws.{longest}
use Rattle.iteration.specs.Key.{iteration_key}
use Rattle.iteration.specs.KeyLaws.{key_compare}
use Rattle.demands.specs.PathCalls.{ReadCall, KeyCall, RenderCall, IterationKeyCall, reading, keying, rendering, iterating}
use Rattle.demands.specs.Walk.{WalkCall, walking}
use Rattle.demands.specs.Told.{told}
use Rattle.demands.specs.Demand2Laws as laws
use Rattle.demands.specs.ModeLaws as modes
use Rattle.demands.specs.KeyedLaws as keyed
use Rattle.demands.specs.MeetsLaws as meet
use Rattle.demands.specs.PathExistsLaws as exist
use Rattle.demands.specs.OneAnswerLaws as sole
use Rattle.demands.specs.Written.{Done, Back, Says, Leaves, read_length, WhenRead}
use Rattle.demands.specs.Rendered.{WhenRendered, WhenKeyed}
use Rattle.hostpath.proofs.hp_validate_client_type.Reads as hp-validate-client-type
use Rattle.hostpath.proofs.hp_validate_client_identifier.Reads as hp-validate-client-identifier
use Rattle.hostpath.proofs.hp_validate_connection_identifier.Reads as hp-validate-connection-identifier
use Rattle.hostpath.proofs.hp_validate_port_identifier.Reads as hp-validate-port-identifier
use Rattle.hostpath.proofs.hp_validate_channel_identifier.Reads as hp-validate-channel-identifier
use Rattle.reader.proofs.read_path.Reads as read-path
use Rattle.render.proofs.render.Reads as render
use Rattle.key.proofs.write_key.Reads as write-key
use Rattle.iteration.proofs.iteration_key.Reads as iteration-key

module _ (Reads : List ℕ → List ℕ → Fault → List ℕ → Type 0) (Renders : ℕ → List ℕ → List ℕ → ℕ → ℕ → List ℕ → Written → List ℕ → Type 0) (Keys : List ℕ → List ℕ → Written → List ℕ → Type 0) where
  pub record Demand2 : Type 0 where
    -- (Every call comes back. Functions that never do would meet all that follows.)
    pub read_answers : (t out : List ℕ) → (f : Fault) × (out₁ : List ℕ) × Reads t out f out₁
    pub render_answers : (kind : ℕ) (one two : List ℕ) (a b : ℕ) (out : List ℕ) → (x : Written) × (out₁ : List ℕ) × Renders kind one two a b out x out₁
    pub key_answers : (t out : List ℕ) → (x : Written) × (out₁ : List ℕ) × Keys t out x out₁
    -- "On every ASCII text of at most 4,096 bytes, reading, .. equal .. the ICS-24 path rules in document 01": each refusal exactly when, ..
    pub when_read : (t out : List ℕ) (f : Fault) (out₁ : List ℕ) → Reads t out f out₁ → WhenRead t out f
    -- .. and where there is none, 26 bytes that say what the text reads as, at the start of the buffer
    pub told_so : (t out : List ℕ) (f : Fault) (out₁ : List ℕ) → Reads t out f out₁ → f.refusal ≡ 0 → (p : Path) × rules.Reads t p × Says t p (told (take 26 out₁))
    pub read_leaves : (t out : List ℕ) (f : Fault) (out₁ : List ℕ) → Reads t out f out₁ → Leaves f.refusal (read_length f) out out₁
    -- ".. rendering .." by kind, identifiers and numbers
    pub when_rendered : (kind : ℕ) (one two : List ℕ) (a b : ℕ) (out : List ℕ) (x : Written) (out₁ : List ℕ) → Renders kind one two a b out x out₁ → WhenRendered kind (carried one two a b) out x
    pub rendered_so : (kind : ℕ) (one two : List ℕ) (a b : ℕ) (out : List ℕ) (x : Written) (out₁ : List ℕ) → Renders kind one two a b out x out₁ → x.refusal ≡ 0 → Done (paths.render (parts_of kind) (carried one two a b)) x out₁
    pub render_leaves : (kind : ℕ) (one two : List ℕ) (a b : ℕ) (out : List ℕ) (x : Written) (out₁ : List ℕ) → Renders kind one two a b out x out₁ → Leaves x.refusal x.length out out₁
    -- .. and of a text, its key
    pub when_keyed : (t out : List ℕ) (x : Written) (out₁ : List ℕ) → Keys t out x out₁ → WhenKeyed t out x
    pub keyed_so : (t out : List ℕ) (x : Written) (out₁ : List ℕ) → Keys t out x out₁ → x.refusal ≡ 0 → (p : Path) × rules.Reads t p × Done (render_path t p) x out₁
    pub key_leaves : (t out : List ℕ) (x : Written) (out₁ : List ℕ) → Keys t out x out₁ → Leaves x.refusal x.length out out₁
    -- ".. save the text "clients", where the Rust panics and we refuse, .."
    pub clients : (out : List ℕ) (f : Fault) (out₁ : List ℕ) → Reads (bytes "clients") out f out₁ → f ≡ record { refusal = not_a_path; place = 0 }
    -- ".. and an upgrade path holding a slash or a rendering over 4,096 bytes, which we refuse." is `bad-segment` and `too_long` of `when-rendered`.
    -- "Rendering a valid typed path of at most 4,096 bytes and reading it gives that path back.": of the bytes that rendering left at the start of its
    -- buffer, reading says that kind, those identifiers, as parts of these bytes, and those numbers, exact
    pub round_trip : (kind : ℕ) (one two : List ℕ) (a b : ℕ) → Valid kind (carried one two a b)
        → (out : List ℕ) (x : Written) (out₁ : List ℕ) → Renders kind one two a b out x out₁ → length (paths.render (parts_of kind) (carried one two a b)) ≤ length out
        → (buffer : List ℕ) (f : Fault) (buffer₁ : List ℕ) → Reads (take x.length out₁) buffer f buffer₁ → 26 ≤ length buffer
        → (f ≡ record { refusal = 0; place = 0 }) × Back (take x.length out₁) (told (take 26 buffer₁)) kind (only (parts_of kind) (carried one two a b))
    -- (and a key reads as its text does, exact)
    pub key_back : (t out : List ℕ) (x : Written) (out₁ : List ℕ) → Keys t out x out₁ → x.refusal ≡ 0 → (p : Path) → rules.Reads t p
        → (buffer : List ℕ) (f : Fault) (buffer₁ : List ℕ) → Reads (take x.length out₁) buffer f buffer₁ → 26 ≤ length buffer
        → (f ≡ record { refusal = 0; place = 0 }) × Back (take x.length out₁) (told (take 26 buffer₁)) (kind_of p) (texts_of t (carried_of p))

-- "Iteration keys compare as bytes exactly as (revision number, revision height) pairs compare." Of any writer of them: two that it has written compare so
module _ (Iterates : ℕ → ℕ → List ℕ → Written → List ℕ → Type 0) where
  pub record IterationKeys : Type 0 where
    pub answers : (number height : ℕ) (out : List ℕ) → (x : Written) × (out₁ : List ℕ) × Iterates number height out x out₁
    pub no_room_when : (number height : ℕ) (out : List ℕ) (x : Written) (out₁ : List ℕ) → Iterates number height out x out₁ → (x.refusal ≡ no_room) ↔ (length out < 38)
    pub done : (number height : ℕ) (out : List ℕ) (x : Written) (out₁ : List ℕ) → Iterates number height out x out₁ → (x.refusal ≡ 0) ↔ (38 ≤ length out)
    pub written_so : (number height : ℕ) (out : List ℕ) (x : Written) (out₁ : List ℕ) → Iterates number height out x out₁ → x.refusal ≡ 0 → Done (iteration_key number height) x out₁
    pub leaves : (number height : ℕ) (out : List ℕ) (x : Written) (out₁ : List ℕ) → Iterates number height out x out₁ → Leaves x.refusal x.length out out₁
    pub compare_so : (m h n k : ℕ) → m < 2 ^ 64 → h < 2 ^ 64 → n < 2 ^ 64 → k < 2 ^ 64
        → (out : List ℕ) (x : Written) (out₁ : List ℕ) → Iterates m h out x out₁ → x.refusal ≡ 0
        → (buffer : List ℕ) (y : Written) (buffer₁ : List ℕ) → Iterates n k buffer y buffer₁ → y.refusal ≡ 0
        → cmp (take x.length out₁) (take y.length buffer₁) ≡ then (compare m n) (compare h k)

-- ---- the calls that people make
module _ (Reads : List ℕ → List ℕ → Fault → List ℕ → Type 0) (some : (t out : List ℕ) → Reads t out (read_fault t (length out)) (left (reading_bytes t) out))
    (ensured : (t out : List ℕ) (f : Fault) (out₁ : List ℕ) → Reads t out f out₁ → (f ≡ read_fault t (length out)) × (out₁ ≡ left (reading_bytes t) out)) where
  meets : Demand2 Reads RenderCall KeyCall
  meets =
      record {
        read_answers = λ t out. (read_fault t (length out), left (reading_bytes t) out, some t out);
        render_answers = λ kind one two a b out. let z = render_of kind (carried one two a b) in (answer z (length out), left z out, exist.a-rendering kind one two a b out);
        key_answers = λ t out. (answer (key_of t) (length out), left (key_of t) out, exist.a_key t out);
        when_read = λ t out f out₁ c. laws.when_read t out f (ensured t out f out₁ c).0;
        told_so = λ t out f out₁ c. let e = ensured t out f out₁ c in meet.tells t out f out₁ e.0 e.1;
        read_leaves = λ t out f out₁ c. let e = ensured t out f out₁ c in meet.read_leaves t out f out₁ e.0 e.1;
        when_rendered = λ kind one two a b out x out₁ c. modes.when-plain kind (carried one two a b) out x (rendering c).0;
        rendered_so = λ kind one two a b out x out₁ c. let e = rendering c in meet.rendered kind (carried one two a b) out x out₁ e.0 e.1;
        render_leaves = λ kind one two a b out x out₁ c. let e = rendering c in meet.leaves out (render_of kind (carried one two a b)) x out₁ e.0 e.1;
        when_keyed = λ t out x out₁ c. keyed.when_keyed t out x (keying c).0;
        keyed_so = λ t out x out₁ c. let e = keying c in meet.keyed t out x out₁ e.0 e.1;
        key_leaves = λ t out x out₁ c. let e = keying c in meet.leaves out (key_of t) x out₁ e.0 e.1;
        clients = λ out f out₁ c. (ensured (bytes "clients") out f out₁ c).0 ∙ meet.clients (length out);
        round_trip = λ kind one two a b valid out x out₁ c room buffer f buffer₁ d.
            let e = rendering c in
            let g = ensured (take x.length out₁) buffer f buffer₁ d in
            meet.round_trip kind (carried one two a b) valid out x out₁ e.0 e.1 room buffer f buffer₁ g.0 g.1;
        key_back = λ t out x out₁ c z p r buffer f buffer₁ d.
            let e = keying c in
            let g = ensured (take x.length out₁) buffer f buffer₁ d in
            meet.key_back t out x out₁ e.0 e.1 z p r buffer f buffer₁ g.0 g.1;
      }

-- THE THEOREM: demand 2 of `hp_read`, `hp_render` and `hp_key`, and of `hp_walk` in the place of `hp_read`
pub demand2 : Demand2 ReadCall RenderCall KeyCall
demand2 = meets ReadCall exist.a-reading (λ t out f out₁ c. reading c)

pub walk_demand2 : Demand2 WalkCall RenderCall KeyCall
walk_demand2 = meets WalkCall exist.a_walk (λ t out f out₁ c. walking c)

pub iteration_demand2 : IterationKeys IterationKeyCall
iteration_demand2 =
    record {
      answers = λ number height out. let z = text (iteration_key number height) in (answer z (length out), left z out, exist.an-iteration_key number height out);
      no_room_when = λ number height out x out₁ c. meet.iteration-room number height out x (iterating c).0;
      done = λ number height out x out₁ c. meet.iteration-done number height out x (iterating c).0;
      written_so = λ number height out x out₁ c z. let e = iterating c in (laws.iteration_keys number height out x out₁ e.0 e.1 ((meet.iteration-done number height out x e.0).0 z)).1;
      leaves = λ number height out x out₁ c. let e = iterating c in meet.leaves out (text (iteration_key number height)) x out₁ e.0 e.1;
      compare_so = λ m h n k a b c d out x out₁ p z buffer y buffer₁ q w.
          let e = iterating p in
          let g = iterating q in
          let s = (laws.iteration_keys m h out x out₁ e.0 e.1 ((meet.iteration-done m h out x e.0).0 z)).1 in
          let u = (laws.iteration_keys n k buffer y buffer₁ g.0 g.1 ((meet.iteration-done n k buffer y g.0).0 w)).1 in
          rw (s.shown, u.shown) (key_compare m h n k a b c d);
    }

-- ---- and nothing is left open: what meets the demand answers as the calls do
module _ (Reads : List ℕ → List ℕ → Fault → List ℕ → Type 0) (Renders : ℕ → List ℕ → List ℕ → ℕ → ℕ → List ℕ → Written → List ℕ → Type 0) (Keys : List ℕ → List ℕ → Written → List ℕ → Type 0)
    (d : Demand2 Reads Renders Keys) where
  pub reads_alike : (t out : List ℕ) (f g : Fault) (out₁ out₂ : List ℕ) → Reads t out f out₁ → ReadCall t out g out₂ → f ≡ g
  reads_alike t out f g out₁ out₂ c e = sole.one-fault t out f g (d.when_read t out f out₁ c) (reading e).0

  pub tells_alike : (t out : List ℕ) (f g : Fault) (out₁ out₂ : List ℕ) → Reads t out f out₁ → ReadCall t out g out₂ → f.refusal ≡ 0 → told (take 26 out₁) ≡ told (take 26 out₂)
  tells_alike t out f g out₁ out₂ c e z =
      let p = d.told_so t out f out₁ c z in
      let q = demand2.told_so t out g out₂ e (ap (λ (y : Fault). y.refusal) (sym (reads_alike t out f g out₁ out₂ c e)) ∙ z) in
      sole.one_told t p.0 q.0 (told (take 26 out₁)) (told (take 26 out₂)) p.1 q.1 p.2 q.2

  pub renders_alike : (kind : ℕ) (one two : List ℕ) (a b : ℕ) (out : List ℕ) (x y : Written) (out₁ out₂ : List ℕ) → Renders kind one two a b out x out₁ → RenderCall kind one two a b out y out₂ → (x ≡ y) × (out₁ ≡ out₂)
  renders_alike kind one two a b out x y out₁ out₂ c e =
      sole.one-outcome x y out out₁ out₂ (sole.one-rendering name_fault kind (carried one two a b) ascii not_ascii out x y (d.when_rendered kind one two a b out x out₁ c) (demand2.when_rendered kind one two a b out y out₂ e))
      (d.render_leaves kind one two a b out x out₁ c) (demand2.render_leaves kind one two a b out y out₂ e) (paths.render (parts_of kind) (carried one two a b))
      (d.rendered_so kind one two a b out x out₁ c) (demand2.rendered_so kind one two a b out y out₂ e)

  pub keys_alike : (t out : List ℕ) (x y : Written) (out₁ out₂ : List ℕ) → Keys t out x out₁ → KeyCall t out y out₂ → (x ≡ y) × (out₁ ≡ out₂)
  keys_alike t out x y out₁ out₂ c e =
      sole.key-outcome x y out out₁ out₂ (sole.one_key t out x y (d.when_keyed t out x out₁ c) (keying e).0) (d.key_leaves t out x out₁ c) (demand2.key_leaves t out y out₂ e) t
      (d.keyed_so t out x out₁ c) (demand2.keyed_so t out y out₂ e)

-- ---- rendering: a valid typed path, wherever there is room, and no other
module _ (kind : ℕ) (one two : List ℕ) (a b : ℕ) where
  abbrev pub given : Carried (List ℕ)
  given = carried one two a b

  abbrev pub rendered : List ℕ
  rendered = paths.render (parts_of kind) given

  module _ (valid : Valid kind given) where
    pub renders : (out : List ℕ) (x : Written) (out₁ : List ℕ) → RenderCall kind one two a b out x out₁ → length rendered ≤ length out → Done rendered x out₁
    renders out x out₁ call room = let e = rendering call in laws.renders kind given valid out x out₁ e.0 e.1 room

    -- the round trip of the functions below: `render::render`, and `reader::read_path`
    pub render_then_read : ReadsAs rendered kind (only (parts_of kind) given)
    render_then_read = laws.reads_as kind given valid

  pub only_valid : (w : List ℕ) → a < 2 ^ 64 → b < 2 ^ 64 → render_of kind given ≡ text w → Valid kind given
  only_valid w m n e = (rendered-valid kind given w m n e).0

-- `render::render`, in the places of its contract
pub render_renders : (κs : _) (a : _) (r : _) (s : _) → render.Post κs a r s
    → Valid a.0 (carried a.1.0.now a.1.1.0.now a.1.1.1.0 a.1.1.1.1.0)
    → length (paths.render (parts_of a.0) (carried a.1.0.now a.1.1.0.now a.1.1.1.0 a.1.1.1.1.0)) ≤ length a.1.1.1.1.1.0.now
    → Done (paths.render (parts_of a.0) (carried a.1.0.now a.1.1.0.now a.1.1.1.0 a.1.1.1.1.0)) r s.1.1.1.1.1.0.now
render_renders κs a r s p valid room = laws.renders a.0 _ valid _ r _ p.0 p.1 room

-- `reader::read_path` answers what reading means
pub read_reads : (κs : _) (a : _) (r : _) (s : _) → read-path.Post κs a r s → r ≡ read_path a.0.now
read_reads κs a r s p = p

-- arguments that a kind lacks have no influence on rendering
pub lacking : (kind : ℕ) (v w : Carried (List ℕ)) (out : List ℕ) (x y : Written) (out₁ out₂ : List ℕ)
    → RenderCall kind v.first v.second v.a v.b out x out₁ → RenderCall kind w.first w.second w.a w.b out y out₂
    → only (parts_of kind) v ≡ only (parts_of kind) w → (x ≡ y) × (out₁ ≡ out₂)
lacking kind v w out x y out₁ out₂ c d e = let p = rendering c in let q = rendering d in laws.lacking kind v w out x y out₁ out₂ p.0 p.1 q.0 q.1 e

-- ---- reading: when it is refused
pub when_read : (t out : List ℕ) (f : Fault) (out₁ : List ℕ) → ReadCall t out f out₁ → WhenRead t out f
when_read t out f out₁ call = demand2.when_read t out f out₁ call

-- a text fits at most one kind, and to read is to fit: the relation `Reads` beside the function
pub one_kind : (t : List ℕ) (j k : ℕ) → 1 ≤ j → j ≤ 19 → 1 ≤ k → k ≤ 19 → fits_kind (kind_at j) t ≡ true → fits_kind (kind_at k) t ≡ true → j ≡ k
one_kind = reads.fits_one

pub reads_exactly : (t : List ℕ) (p : Path) → rules.Reads t p ↔ (paths.read_first kinds t ≡ Some p)
reads_exactly t p = (λ r. reads.reads-is r, λ e. reads.is-reads t p e)

pub reads_one : (t : List ℕ) (p q : Path) → rules.Reads t p → rules.Reads t q → p ≡ q
reads_one t p q x y = reads.reads_one x y

-- ---- keys: every text that reads gets its key where there is room; the key reads as the text does, exact, and is its own key
module _ (t : List ℕ) (p : Path) (e : Bool) (h : read_path t ≡ Read p e) where
  pub write_key_keys : (κs : _) (a : _) (r : _) (s : _) → write-key.Post κs a r s → a.0.now ≡ t → length (render_path t p) ≤ length a.1.0.now → Done (render_path t p) r s.1.0.now
  write_key_keys κs a r s q i room = laws.keys t p e h _ r _ (subst (λ (u : List ℕ). r ≡ answer (key_of u) (length a.1.0.now)) i q.0) (subst (λ (u : List ℕ). s.1.0.now ≡ left (key_of u) a.1.0.now) i q.1) room

  pub key_short : length (render_path t p) ≤ 4096
  key_short = laws.key_short t p e h

  pub key_reads : ReadsAs (render_path t p) (kind_of p) (texts_of t (carried_of p))
  key_reads = laws.key_reads t p e h

  pub key_again : key_of (render_path t p) ≡ text (render_path t p)
  key_again = laws.key_again t p e h

-- ---- iteration keys
module _ (number height : ℕ) where
  -- 38 bytes of room are enough
  pub iteration_keys : (out : List ℕ) (x : Written) (out₁ : List ℕ) → IterationKeyCall number height out x out₁ → 38 ≤ length out → (length (iteration_key number height) ≡ 38) × Done (iteration_key number height) x out₁
  iteration_keys out x out₁ call room = let q = iterating call in laws.iteration_keys number height out x out₁ q.0 q.1 room

  pub iteration_key_keys : (κs : _) (a : _) (r : _) (s : _) → iteration-key.Post κs a r s → 38 ≤ length a.1.1.0.now → Done (iteration_key a.0.0 a.1.0.0) r s.1.1.0.now
  iteration_key_keys κs a r s q room = (laws.iteration_keys a.0.0 a.1.0.0 _ r _ q.0 q.1 room).1

pub keys_compare : (m h n k : ℕ) → m < 2 ^ 64 → h < 2 ^ 64 → n < 2 ^ 64 → k < 2 ^ 64 → cmp (iteration_key m h) (iteration_key n k) ≡ then (compare m n) (compare h k)
keys_compare m h n k = key_compare m h n k

-- ---- "the identifier checks equal the Rust": each is the Rust's composition of its general checks
pub client_checks : (κs : _) (a : _) (r : _) (s : _) → hp-validate-client-identifier.Post κs a r s → r ≡ general_of client a.0.now
client_checks κs a r s p = p ∙ laws.client_general a.0.now

pub connection_checks : (κs : _) (a : _) (r : _) (s : _) → hp-validate-connection-identifier.Post κs a r s → r.refusal ≡ general_of connection a.0.now
unfolding fault_of
connection_checks κs a r s p = ap (λ (f : Fault). f.refusal) p ∙ laws.connection_general a.0.now

pub port_checks : (κs : _) (a : _) (r : _) (s : _) → hp-validate-port-identifier.Post κs a r s → r ≡ general_of port a.0.now
port_checks κs a r s p = p ∙ laws.port_general a.0.now

pub channel_checks : (κs : _) (a : _) (r : _) (s : _) → hp-validate-channel-identifier.Post κs a r s → r.refusal ≡ general_of channel a.0.now
unfolding fault_of
channel_checks κs a r s p = ap (λ (f : Fault). f.refusal) p ∙ laws.channel_general a.0.now

pub client_type_checks : (κs : _) (a : _) (r : _) (s : _) → hp-validate-client-type.Post κs a r s → r ≡ first (chars_of a.0.now) (prefix_length_of a.0.now 9 64)
client_type_checks κs a r s p = p ∙ laws.client_type_checks a.0.now

-- ---- the longest rendering outside kinds 18 and 19 has 251 bytes
pub longest_rendering : (k : ℕ) (v : Carried (List ℕ)) (w : List ℕ) → k ≤ 17 → v.a < 2 ^ 64 → v.b < 2 ^ 64 → render_of k v ≡ text w → length w ≤ 251
longest_rendering k v w h a b e =
    let r = rendered-valid k v w a b e in
    rw r.1 (longest k v r.0.least h a b r.0.names)
