-- The texts of the writers are those of the table.
-- Assumes nothing.
use Rattle.std.specs.Prelude.{ℕ, ◌-◌, ◌≤◌, ◌≡◌}
use Rattle.std.proofs.Math.Path.{refl}
use mathlib.Core.List.{List, [], ◌∷◌, ◌++◌, append_assoc, append-nil}
use Rattle.std.proofs.Common.{arith}
use Rattle.std.proofs.Math.ListN.{get_or}
use Rattle.text.specs.Bytes.{bytes}
use Rattle.text.specs.TableLaws.{agree_at}
use Rattle.path.specs.Text.{join_by}
use Rattle.path.specs.Kinds.{word, Carried, kinds}
use Rattle.path.specs.Read.{show, render, parts_of}
use Rattle.path.specs.Parents.{consensus_parent, consensus_leaf, packets_path}
use Rattle.writers.specs.Texts.{sequence_texts, client_texts, channel_texts, packet_texts, upgrade_texts, parent_text, leaf_text, packets_text}

-- each group of kinds, by one computed table
module _ (v : Carried (List ℕ)) (k : ℕ) where
  pub sequence-text : 1 ≤ k → k ≤ 3 → render (parts_of k) v ≡ get_or sequence_texts (k - 1) []
  unfolding parts_of render show join_by kinds
  sequence-text l h = agree_at (λ k. render (parts_of k) v) (λ k. get_or sequence_texts (k - 1) []) 1 3 refl k l (omega arith)

  pub client-text : 4 ≤ k → k ≤ 8 → render (parts_of k) v ≡ get_or (client_texts v.first v.a v.b) (k - 4) []
  unfolding parts_of render show join_by kinds
  client-text l h = agree_at (λ k. render (parts_of k) v) (λ k. get_or (client_texts v.first v.a v.b) (k - 4) []) 4 5 (simp (append_assoc, append-nil)) k l (omega arith)

  pub channel-text : 9 ≤ k → k ≤ 14 → render (parts_of k) v ≡ get_or (channel_texts v.first v.second) (k - 9) []
  unfolding parts_of render show join_by kinds
  channel-text l h = agree_at (λ k. render (parts_of k) v) (λ k. get_or (channel_texts v.first v.second) (k - 9) []) 9 6 (simp append_assoc) k l (omega arith)

  pub packet-text : 15 ≤ k → k ≤ 17 → render (parts_of k) v ≡ get_or (packet_texts v.first v.second v.a) (k - 15) []
  unfolding parts_of render show join_by kinds
  packet-text l h = agree_at (λ k. render (parts_of k) v) (λ k. get_or (packet_texts v.first v.second v.a) (k - 15) []) 15 3 (simp append_assoc) k l (omega arith)

  pub upgrade-text : 18 ≤ k → k ≤ 19 → render (parts_of k) v ≡ get_or (upgrade_texts v.first v.a) (k - 18) []
  unfolding parts_of render show join_by kinds
  upgrade-text l h = agree_at (λ k. render (parts_of k) v) (λ k. get_or (upgrade_texts v.first v.a) (k - 18) []) 18 2 (simp append_assoc) k l (omega arith)

-- the texts that are no whole path
module _ (v : Carried (List ℕ)) where
  pub parent-text : render consensus_parent v ≡ parent_text v.first
  unfolding render show join_by
  parent-text = refl

  pub leaf-text : render (consensus_leaf []) v ≡ leaf_text v.a v.b []
  unfolding render show join_by
  leaf-text = simp append-nil

  pub below-text : (w : List ℕ) → render (consensus_leaf (word w ∷ [])) v ≡ leaf_text v.a v.b (47 ∷ w)
  unfolding render show join_by
  below-text w = simp append_assoc

  pub packets-text : (w f : List ℕ) → f ≡ w ++ bytes "/ports/" → render (packets_path w) v ≡ packets_text f v.first v.second
  unfolding render show join_by
  packets-text w f e = rw e (simp append_assoc)
