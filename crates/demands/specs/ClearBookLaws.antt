-- What a clearing leaves are records that the book may hold.
-- Assumes nothing.
use Rattle.std.specs.Prelude.{ℕ, List}
use Rattle.std.proofs.Common.{arith}
use Rattle.book_records.specs.Act.{Rec}
use Rattle.book_form.specs.Form.{AllFit, AllExact}
use Rattle.book.specs.Book.{Current}
use Rattle.book_clear.specs.Clear.{goes, clear_in}
use Rattle.book_clear.specs.LeftLaws.{all_left}
use Rattle.book_clear.specs.ClearLaws.{all_in, sorted_in, fewer_in}
use Rattle.demands.specs.Held.{ProperBook}
use Rattle.demands.specs.MachineLaws.{Good}

pub good-clear : {b : List ℕ} (x : ProperBook b) (owner : ℕ) (client : List ℕ) (keep : ℕ) (s : List Rec) → Good x s → Good x (clear_in owner client keep s).1
good-clear x owner client keep s g = record {
  proper = record { sorted = sorted_in owner client keep s g.proper.sorted; within = λ o. omega (arith, g.proper.within o, fewer_in owner client keep o s) };
  fit = all_in owner client keep (AllFit Current) (λ t h. all_left (goes owner client keep t) (AllFit Current) tt (λ r a b p q. (p.0, q)) (λ r a p. p.1) t h) s g.fit;
  exact = all_in owner client keep (AllExact Current) (λ t h. all_left (goes owner client keep t) (AllExact Current) tt (λ r a b p q. (p.0, q)) (λ r a p. p.1) t h) s g.exact;
}
