use Rattle.std.proofs.Common.{refl, sym, ◌∙◌, ◌+◌, arith}
use Rattle.book_form.specs.WordsLaws.{low_of, low_same, low_alike}
use Rattle.book_form.proofs.apart.Goals as goal

pub returns-then-eight : goal.returns-then-eight
returns-then-eight c =
    let e = low_of c.args.s.now in
    record {
      within = omega arith;
      alike = c.loop-i.invariant;
      last = λ same. absurd (c.if-eight.true (c.eight.ensures.value ∙ e (c.args.a + c.loop-i.i) ∙ low_same c.args.s.now (c.args.a + c.loop-i.i) (c.args.b + c.loop-i.i) same ∙ sym (e (c.args.b + c.loop-i.i)) ∙ sym c.eight-in-loop-i.ensures.value));
    }

pub loop-i-preserved : goal.loop-i-preserved
loop-i-preserved c =
    let e = low_of c.args.s.now in
    low_alike c.args.s.now c.args.a c.args.b c.loop-i.i c.eight.ensures.bytes c.loop-i.invariant (sym (e (c.args.a + c.loop-i.i)) ∙ sym c.eight.ensures.value ∙ c.if-eight.false ∙ c.eight-in-loop-i.ensures.value ∙ e (c.args.b + c.loop-i.i))

pub returns-else-eight : goal.returns-else-eight
returns-else-eight c =
    let e = low_of c.args.s.now in
    let all = low_alike c.args.s.now c.args.a c.args.b c.loop-i.i c.eight.ensures.bytes c.loop-i.invariant (sym (e (c.args.a + c.loop-i.i)) ∙ sym c.eight.ensures.value ∙ c.if-eight.false ∙ c.eight-in-loop-i.ensures.value ∙ e (c.args.b + c.loop-i.i)) in
    record { within = omega arith; alike = λ j l. all j (omega arith); last = λ same. refl }
