-- The texts that are no whole path, as the writers write them.
-- Assumes nothing.
use Rattle.std.specs.Prelude.{ℕ, ◌≤◌, ◌≡◌, List, [], ◌∷◌, ◌++◌, length}
use Rattle.std.proofs.Common.{ne_eqb}
use Rattle.text.specs.Bytes.{bytes}
use Rattle.text.specs.Put.{text, refused, accepted}
use Rattle.identifiers.specs.Check.{check_of}
use Rattle.identifiers.specs.Check as check
use Rattle.identifiers.specs.CheckLaws.{first-zero, first-last, accepted-length}
use Rattle.path.specs.Kinds.{word, Carried}
use Rattle.path.specs.declared.name.Name.TheVariants.{Port as port, Channel as channel}
use Rattle.path.specs.Read.{name_fault, names_fault}
use Rattle.path.specs.Parents.{text_of, consensus_parent, consensus_leaf, packets_path}
use Rattle.writers.specs.Texts.{parent_text, leaf_text, packets_text}
use Rattle.writers.specs.TextLaws.{parent-text, leaf-text, below-text, packets-text}
use Rattle.render.specs.declared.Names.TheVariants.{PortAndChannel}
use Rattle.render.specs.Render.{fault_by}

module _ (v : Carried (List ℕ)) where
  pub parent-wanted : text_of consensus_parent v ≡ accepted (check_of check.client v.first) (parent_text v.first)
  unfolding text_of names_fault name_fault
  parent-wanted = rw (parent-text v, first-last (check_of check.client v.first))

  pub leaf-wanted : text_of (consensus_leaf []) v ≡ text (leaf_text v.a v.b [])
  unfolding text_of names_fault
  leaf-wanted = rw (leaf-text v)

  pub below-wanted : (w : List ℕ) → text_of (consensus_leaf (word w ∷ [])) v ≡ text (leaf_text v.a v.b (47 ∷ w))
  unfolding text_of names_fault
  below-wanted w = rw (below-text v w)

  pub packets-wanted : (w f : List ℕ) → f ≡ w ++ bytes "/ports/" → text_of (packets_path w) v ≡ accepted (fault_by name_fault PortAndChannel v.first v.second) (packets_text f v.first v.second)
  unfolding text_of names_fault
  packets-wanted w f e = rw (packets-text v w f e, first-last (name_fault channel v.second))

-- ---- a check's refusal, and none
module _ {n m : ℕ} (w : List ℕ) (e : n ≡ m) where
  pub accepted-not : (n ≡ 0 → ⊥) → accepted m w ≡ refused n
  accepted-not h = rw (← e, ne_eqb n 0 h)

  pub accepted-text : n ≡ 0 → accepted m w ≡ text w
  accepted-text h = rw (← e, h)

-- ---- accepted identifiers are short
pub ends-most : (p h : List ℕ) → fault_by name_fault PortAndChannel p h ≡ 0 → (length p ≤ 128) × (length h ≤ 64)
unfolding name_fault
ends-most p h e = let z = first-zero (name_fault port p) (name_fault channel h) e in ((accepted-length check.port p z.0).1, (accepted-length check.channel h z.1).1)
