-- New identifiers, and owned ones: an array with its length, filled from its start and zero after that.
-- Assumes nothing.
use Rattle.std.specs.Prelude.{ℕ, Bool, cond, ◌&&◌, ◌||◌, List, [], ◌∷◌, ◌++◌, eqb, leb, replicate}
use Rattle.text.specs.Bytes.{bytes}
use Rattle.text.specs.Number.{decimal}
use Rattle.text.specs.Part.{ascii}
use Rattle.text.specs.Refusal.{not_ascii}
use Rattle.text.specs.Put.{Wanted, text, accepted, answer, left}
use Rattle.text.specs.declared.Fault.{Fault}
use Rattle.std.specs.declared.result.Result.{Result}
use Rattle.std.specs.declared.result.Result.TheVariants.{Ok, Err}
use Rattle.identifiers.specs.Check.{first, unless, check_of, Rule, client_type}
use Rattle.identifiers.specs.declared.client_id.ClientId.{ClientId}
use Rattle.identifiers.specs.declared.connection_id.ConnectionId.{ConnectionId}
use Rattle.identifiers.specs.declared.channel_id.ChannelId.{ChannelId}
use Rattle.identifiers.specs.declared.port_id.PortId.{PortId}

-- an identifier as it is written
unfoldable pub as_written : Rule → List ℕ → Wanted
as_written r s = accepted (check_of r s) s

-- ---- trimming: bytes 9 to 13 and 32
abbrev pub blank : ℕ → Bool
blank b = (leb 9 b && leb b 13) || eqb b 32

unfoldable pub trim_start : List ℕ → List ℕ
trim_start [] = []
trim_start (b ∷ s) = cond (blank b) (trim_start s) (b ∷ s)

-- one byte in front of what is left of the text after it
abbrev pub keep : ℕ → List ℕ → List ℕ
keep b [] = cond (blank b) [] (b ∷ [])
keep b (x ∷ s) = b ∷ x ∷ s

unfoldable pub trim_end : List ℕ → List ℕ
trim_end [] = []
trim_end (b ∷ s) = keep b (trim_end s)

unfoldable pub trim : List ℕ → List ℕ
trim s = trim_end (trim_start s)

-- ---- new identifiers
-- `{client type}-{counter}`: ASCII, then trimming, then the check
unfoldable pub new_client : List ℕ → ℕ → Wanted
new_client s n = accepted (first (unless not_ascii (ascii s)) (check_of client_type (trim s))) (trim s ++ (bytes "-" ++ decimal n))

-- `channel-{counter}`
unfoldable pub new_channel : ℕ → Wanted
new_channel n = text (bytes "channel-" ++ decimal n)

-- ---- owned identifiers: what is written into an array of zeros
abbrev pub zeros : ℕ → List ℕ
zeros n = replicate n 0

-- what is made, where the number of an answer is 0, and else the refusal
abbrev pub made : {X E : Type 0} → ℕ → X → E → Result X E
made n x e = cond (eqb n 0) (Ok x) (Err e)

unfoldable pub made_client : Wanted → Result ClientId ℕ
made_client w = let a = answer w 64 in made a.refusal (record { bytes = left w (zeros 64); len = a.length }) a.refusal

-- where the check of an index can refuse, with the place of its fault
unfoldable pub made_connection : Wanted → ℕ → Result ConnectionId Fault
made_connection w p = let a = answer w 64 in made a.refusal (record { bytes = left w (zeros 64); len = a.length }) (record { refusal = a.refusal; place = p })

unfoldable pub owned_channel : Wanted → ChannelId
owned_channel w = record { bytes = left w (zeros 64); len = (answer w 64).length }

unfoldable pub made_channel : Wanted → ℕ → Result ChannelId Fault
made_channel w p = let a = answer w 64 in made a.refusal (owned_channel w) (record { refusal = a.refusal; place = p })

unfoldable pub made_port : Wanted → Result PortId ℕ
made_port w = let a = answer w 128 in made a.refusal (record { bytes = left w (zeros 128); len = a.length }) a.refusal
