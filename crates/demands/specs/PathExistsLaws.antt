-- The generated contracts of `hp_read`, `hp_walk`, `hp_render`, `hp_key` and `hp_iteration_key` allow an outcome of every call, so what is proved of
-- the calls is not empty.
-- Assumes nothing.
use Rattle.std.specs.Prelude.{refl, List, [], ℕ, length}
use Rattle.std.specs.Borrow.{Bor, MutBor}
use Rattle.text.specs.Put.{text, answer, left}
use Rattle.path.specs.Read.{reading_bytes, read_fault, key_of, render_of}
use Rattle.path.specs.Kinds.{carried}
use Rattle.iteration.specs.Key.{iteration_key}
use Rattle.demands.specs.PathCalls.{ReadCall, KeyCall, RenderCall, IterationKeyCall}
use Rattle.demands.specs.Walk.{WalkCall}

abbrev lent : List ℕ → Bor (List ℕ)
lent l = record { ref_ptr = (0, 0); now = l }

-- the same, lent to be written
abbrev given : List ℕ → MutBor (List ℕ)
given l = record { ref_ptr = (0, 0); ghost_name = 0; now = l }

pub a-reading : (t out : List ℕ) → ReadCall t out (read_fault t (length out)) (left (reading_bytes t) out)
a-reading t out =
    record {
      lifetimes = ([], ([], tt));
      args = (lent t, (given out, tt));
      result = read_fault t (length out);
      exits = (lent t, (given (left (reading_bytes t) out), tt));
      text_in = refl;
      out_in = refl;
      fault_out = refl;
      out_out = refl;
      ensures = (refl, refl);
    }

pub a_walk : (t out : List ℕ) → WalkCall t out (read_fault t (length out)) (left (reading_bytes t) out)
a_walk t out =
    record {
      lifetimes = ([], ([], tt));
      args = (lent t, (given out, tt));
      result = read_fault t (length out);
      exits = (lent t, (given (left (reading_bytes t) out), tt));
      text_in = refl;
      out_in = refl;
      fault_out = refl;
      out_out = refl;
      ensures = (refl, refl);
    }

pub a_key : (t out : List ℕ) → KeyCall t out (answer (key_of t) (length out)) (left (key_of t) out)
a_key t out =
    record {
      lifetimes = ([], ([], tt));
      args = (lent t, (given out, tt));
      result = answer (key_of t) (length out);
      exits = (lent t, (given (left (key_of t) out), tt));
      text_in = refl;
      out_in = refl;
      answer_out = refl;
      out_out = refl;
      ensures = (refl, refl);
    }

pub a-rendering : (kind : ℕ) (one two : List ℕ) (a b : ℕ) (out : List ℕ)
    → RenderCall kind one two a b out (answer (render_of kind (carried one two a b)) (length out)) (left (render_of kind (carried one two a b)) out)
a-rendering kind one two a b out =
    record {
      lifetimes = ([], ([], ([], tt)));
      args = (kind, (lent one, (lent two, (a, (b, (given out, tt))))));
      result = answer (render_of kind (carried one two a b)) (length out);
      exits = (kind, (lent one, (lent two, (a, (b, (given (left (render_of kind (carried one two a b)) out), tt))))));
      kind_in = refl;
      first_in = refl;
      second_in = refl;
      a_in = refl;
      b_in = refl;
      out_in = refl;
      answer_out = refl;
      out_out = refl;
      ensures = (refl, refl);
    }

pub an-iteration_key : (number height : ℕ) (out : List ℕ)
    → IterationKeyCall number height out (answer (text (iteration_key number height)) (length out)) (left (text (iteration_key number height)) out)
an-iteration_key number height out =
    record {
      lifetimes = ([], tt);
      args = (number, (height, (given out, tt)));
      result = answer (text (iteration_key number height)) (length out);
      exits = (number, (height, (given (left (text (iteration_key number height)) out), tt)));
      number_in = refl;
      height_in = refl;
      out_in = refl;
      answer_out = refl;
      out_out = refl;
      ensures = (refl, refl);
    }
