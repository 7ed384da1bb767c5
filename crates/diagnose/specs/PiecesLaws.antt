-- The first seven components of a text, and the parts of a kind, one at a time; what a cut tells of them.
-- Assumes nothing.
use Rattle.std.specs.Prelude.{ℕ, min, ◌+◌, ◌-◌, ◌≤◌, ◌<◌, ◌≡◌, List, [], ◌∷◌, length, take, drop, get_or}
use Rattle.std.proofs.Common.{◌∙◌, arith, add-one, length-take, drop_of_length-le, drop-cons, get_or-take, lt-ltb, le-ltb}
use Rattle.std.proofs.lemmas.List.{length-map}
use Rattle.std.proofs.Math.ListN.{get_or-map}
use Rattle.path.specs.declared.Cut.{Cut}
use Rattle.path.specs.Cut.{cut_of}
use Rattle.path.specs.Text.{components, component, place_at, places}
use Rattle.path.specs.TextLaws.{count-components, part-component, place-next, place-last, place-within}
use Rattle.read_pieces.specs.CutLaws.{cut-start, cut-count}
use Rattle.diagnose.specs.Diagnosis.{seven, how_many, start_at}
use Rattle.diagnose.specs.Table.{part_in, parts_in}

pub seven-length : (t : List ℕ) → length (seven t) ≡ min 7 (length (components t))
seven-length t = length-take 7 (components t)

pub parts-length : (g : List ℕ) → length (parts_in g) ≡ length (seven g)
parts-length g = length-map (seven g) part_in

-- ---- from component i on
module _ (t : List ℕ) (i : ℕ) (h : i < length (seven t)) where
  pub seven-more : drop i (seven t) ≡ component t i ∷ drop (i + 1) (seven t)
  seven-more = drop-cons (seven t) i [] h ∙ rw (get_or-take 7 (components t) i [] (omega (arith, seven-length t)), add-one)

  pub parts_more : drop i (parts_in t) ≡ part_in (component t i) ∷ drop (i + 1) (parts_in t)
  parts_more = drop-cons (parts_in t) i (part_in []) (omega (arith, parts-length t)) ∙ rw (get_or-map part_in (seven t) i [], get_or-take 7 (components t) i [] (omega (arith, seven-length t)), add-one)

module _ (t : List ℕ) (i : ℕ) (h : length (seven t) ≤ i) where
  pub seven-none : drop i (seven t) ≡ []
  seven-none = drop_of_length-le (seven t) h

  pub parts_none : drop i (parts_in t) ≡ []
  parts_none = let k : length (parts_in t) ≤ i = omega (arith, parts-length t) in drop_of_length-le (parts_in t) k

-- ---- what a cut tells
module _ (t : List ℕ) (c : Cut) (e : c ≡ cut_of t) where
  pub count_many : c.count ≡ how_many t
  count_many = cut-count t c e ∙ rw (count-components t)

  pub count-seen : min 7 c.count ≡ length (seven t)
  count-seen = omega (arith, count_many, seven-length t)

  module _ (k : ℕ) (h : k < length (seven t)) where
    pub start-here : get_or c.starts k 0 ≡ (place_at t k).start
    start-here = cut-start t c e k (omega (arith, seven-length t))

    pub ends-here : get_or c.starts k 0 + (place_at t k).len ≤ length t
    ends-here = omega (arith, start-here, place-within t k)

    more-places : k + 1 < c.count → k + 1 < length (places t)
    more-places l = omega (arith, cut-count t c e)

    pub next_start : k + 1 < c.count → get_or c.starts (k + 1) 0 ≡ get_or c.starts k 0 + (place_at t k).len + 1
    next_start l = omega (arith, start-here, cut-start t c e (k + 1) (omega (arith, seven-length t)), place-next t k (more-places l))

    pub shows_middle : k + 1 < c.count → take (get_or c.starts (k + 1) 0 - 1 - get_or c.starts k 0) (drop (get_or c.starts k 0) t) ≡ component t k
    shows_middle l =
        let n : get_or c.starts (k + 1) 0 - 1 - get_or c.starts k 0 ≡ (place_at t k).len = omega (arith, next_start l) in
        rw (n, start-here) (part-component t k)

    last-place : c.count ≤ k + 1 → k + 1 ≡ length (places t)
    last-place l = omega (arith, cut-count t c e, seven-length t, count-components t)

    pub shows-last : c.count ≤ k + 1 → take (length t - get_or c.starts k 0) (drop (get_or c.starts k 0) t) ≡ component t k
    shows-last l =
        let n : length t - get_or c.starts k 0 ≡ (place_at t k).len = omega (arith, start-here, place-last t k (last-place l)) in
        rw (n, start-here) (part-component t k)

  -- where a component starts, and the end of the text past the last
  pub start-shown : (f : ℕ) → f < c.count → get_or c.starts f 0 ≡ start_at t f
  unfolding start_at
  start-shown f h = rw (lt-ltb f (how_many t) (omega (arith, count_many))) (cut-start t c e f (omega (arith, count_many)))

  pub start-past : (f : ℕ) → c.count ≤ f → length t ≡ start_at t f
  unfolding start_at
  start-past f h = rw (le-ltb f (how_many t) (omega (arith, count_many)))
