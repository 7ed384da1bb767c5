-- A reading rendered from its view, and the key of the text that was read or of another of its length.
-- Assumes nothing.
use Rattle.std.specs.Prelude.{ℕ, ◌≤◌, ◌≡◌, Bool, List, Ok, Err}
use Rattle.std.proofs.Math.Path.{refl}
use Rattle.std.proofs.Common.{sym, ap, ◌∙◌, arith, length-take, length-drop}
use Rattle.std.proofs.Math.ListN.{length}
use borrow.Author.Tests.{le-leb}
use Rattle.text.specs.Put.{refused}
use Rattle.path.specs.declared.Place.{Place}
use Rattle.path.specs.declared.Path.{Path}
use Rattle.path.specs.declared.Path.TheVariants.{NextClientSequence, NextConnectionSequence, NextChannelSequence, ClientState, ClientConsensusState, ClientUpdateTime, ClientUpdateHeight, ClientConnection, Connection, Ports, ChannelEnd, SeqSend, SeqRecv, SeqAck, Commitment, Ack, Receipt, UpgradeClientState, UpgradeConsensusState}
use Rattle.path.specs.declared.PathView.{PathView}
use Rattle.path.specs.declared.Refusal.{Refusal}
use Rattle.path.specs.Reading.{Reading, Read}
use Rattle.path.specs.Kinds.{carried}
use Rattle.path.specs.Text.{part_of, shown_of}
use Rattle.path.specs.Read.{render, parts_of, texts_of, render_path, read_path, refusal_of, number_of, key_by, key_of}
use Rattle.path.specs.View.{kind_of, carried_of, view_of, viewed_by}
use Rattle.path.specs.ViewLaws.{is_seen, is-unread}
use Rattle.path.specs.BackLaws.{read_reads}
use Rattle.path.specs.LengthLaws.{rendering-short}
use Rattle.path.specs.MeasureLaws.{render-length}
use Rattle.path.specs.PlaceLaws.{Lie, read_lies, shown_lies}
use Rattle.render.specs.Render.{short}
use Rattle.key.specs.Key.{shown_at, shown_by}

-- every path has one of the nineteen kinds
kind_range : (p : Path) → (1 ≤ kind_of p) × (kind_of p ≤ 19)
kind_range (NextClientSequence x) = (omega arith, omega arith)
kind_range (NextConnectionSequence x) = (omega arith, omega arith)
kind_range (NextChannelSequence x) = (omega arith, omega arith)
kind_range (ClientState x) = (omega arith, omega arith)
kind_range (ClientConsensusState x) = (omega arith, omega arith)
kind_range (ClientUpdateTime x) = (omega arith, omega arith)
kind_range (ClientUpdateHeight x) = (omega arith, omega arith)
kind_range (ClientConnection x) = (omega arith, omega arith)
kind_range (Connection x) = (omega arith, omega arith)
kind_range (Ports x) = (omega arith, omega arith)
kind_range (ChannelEnd x) = (omega arith, omega arith)
kind_range (SeqSend x) = (omega arith, omega arith)
kind_range (SeqRecv x) = (omega arith, omega arith)
kind_range (SeqAck x) = (omega arith, omega arith)
kind_range (Commitment x) = (omega arith, omega arith)
kind_range (Ack x) = (omega arith, omega arith)
kind_range (Receipt x) = (omega arith, omega arith)
kind_range (UpgradeClientState x) = (omega arith, omega arith)
kind_range (UpgradeConsensusState x) = (omega arith, omega arith)

-- ---- a reading: a refusal, or what its view shows
module _ (t : List ℕ) (r : Reading) where
  pub shown-refused : (w : Refusal) → r ≡ Err w → shown_by t r ≡ refused (number_of r)
  unfolding shown_by
  shown-refused w e = rw e

  pub shown-seen : (p : Path) (e : Bool) → r ≡ Read p e → (v : PathView) → v ≡ view_of p e → shown_at t v ≡ shown_by t r
  unfolding shown_by
  shown-seen p e is v seen = rw (seen, is)

pub view_range : (v : PathView) (p : Path) (e : Bool) → v ≡ view_of p e → (1 ≤ v.kind) × (v.kind ≤ 19)
unfolding view_of
view_range v p e seen = rw seen (kind_range p)

-- with the parts of the text as they were lent
pub shown-lent : (t : List ℕ) (v : PathView) (x y : List ℕ) → x ≡ shown_of t v.first → y ≡ shown_of t v.second → short (render (parts_of v.kind) (carried x y v.a v.b)) ≡ shown_at t v
unfolding shown_at
shown-lent t v x y first second = rw (first, second)

-- ---- the reading of s, rendered with the parts of a text t of the same length
module _ (s t : List ℕ) (same : length s ≡ length t) where
  length_part : (p : Place) → length (part_of t p) ≡ length (part_of s p)
  length_part p = simp (length-take, length-drop) (rw same)

  pub length-rendering : (p : Path) → length (render_path t p) ≡ length (render_path s p)
  unfolding render_path
  length-rendering p =
      render-length (parts_of (kind_of p)) (texts_of t (carried_of p))
      ∙ rw (length_part (carried_of p).first, length_part (carried_of p).second) (sym (render-length (parts_of (kind_of p)) (texts_of s (carried_of p))))

  module _ (p : Path) (e : Bool) (read : read_path s ≡ Read p e) where
    lies : Lie t (carried_of p)
    lies = let l = read_lies s p (read_reads s p e read) in (omega (arith, l.0), omega (arith, l.1))

    pub shown-path : render (parts_of (kind_of p)) (carried (shown_of t (carried_of p).first) (shown_of t (carried_of p).second) (carried_of p).a (carried_of p).b) ≡ render_path t p
    unfolding render_path
    shown-path = rw (shown_lies t (carried_of p).first lies.0, shown_lies t (carried_of p).second lies.1)

    shown-text : shown_by t (Read p e) ≡ key_by t (Read p e)
    unfolding shown_by shown_at view_of short
    shown-text = let l : length (render_path t p) ≤ 4096 = rw (length-rendering p) (rendering-short s p e read) in rw (shown-path, le-leb (length (render_path t p)) 4096 l)

  pub shown-key : (r : Reading) → read_path s ≡ r → shown_by t r ≡ key_by t r
  unfolding shown_by
  shown-key (Ok r) h = shown-text r.path r.exact h
  shown-key (Err w) h = refl

-- ---- of the text itself: its key
pub key-shown : (t : List ℕ) (r : Reading) → r ≡ read_path t → shown_by t r ≡ key_of t
unfolding key_of
key-shown t r e = shown-key t t refl r (sym e) ∙ ap (key_by t) e

-- by the flat form of its reading
module _ (t : List ℕ) where
  module _ (v : PathView) (by : Ok v ≡ viewed_by (read_path t)) where
    pub seen_range : (1 ≤ v.kind) × (v.kind ≤ 19)
    seen_range = let q = is_seen (read_path t) v by in view_range v q.path q.mark q.shows

    pub seen_key : shown_at t v ≡ key_of t
    seen_key = let q = is_seen (read_path t) v by in shown-seen t (read_path t) q.path q.mark q.read v q.shows ∙ key-shown t (read_path t) refl

  pub unread-key : (w : Refusal) → Err w ≡ viewed_by (read_path t) → key_of t ≡ refused (refusal_of w)
  unfolding key_of
  unread-key w by = rw (is-unread (read_path t) w by)

-- as `write_rendering` writes it
module _ (t : List ℕ) (r : Reading) (p : Path) (e : Bool) (is : r ≡ Read p e) (by : r ≡ read_path t) (v : PathView) (seen : v ≡ view_of p e) where
  pub view-parts : render (parts_of v.kind) (carried (shown_of t v.first) (shown_of t v.second) v.a v.b) ≡ render_path t p
  unfolding view_of
  view-parts = rw seen (shown-path t t refl p e (sym by ∙ is))
