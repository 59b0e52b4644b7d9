-- `carry::carry_out`: the line is read, then the call and its A line.
use borrow.Author.Rules.{rules}
use native.Mathlib.Omega.{arith}
use Rattle.octets.proofs.Tests.{slice-bytes}
use Rattle.carry.proofs.Answering.{unread-carried, steps-few, told-performed, count-few, wrote-few, answer-ends, call-carried}
use Rattle.carry.proofs.carry_out.Goals as goal

pub read_line-requires : goal.read_line-requires
read_line-requires c = c.requires.0

pub returns-in_default : goal.returns-in_default
returns-in_default c = unread-carried c.args.line.now c.read_line.new.path (c.read_line.ensures.reading, c.read_line.ensures.spans) c.in_default.is c.args.store.now c.put_unread.ensures c.requires.1

pub overflow_mul-n : goal.overflow_mul-n
overflow_mul-n c = search (rules, steps-few c.args.line.now c.read_line.new.path (c.read_line.ensures.reading, c.read_line.ensures.spans) c.in-Some.is)

pub slice_bounds-perform-end : goal.slice_bounds-perform-end
slice_bounds-perform-end c = omega (arith, steps-few c.args.line.now c.read_line.new.path (c.read_line.ensures.reading, c.read_line.ensures.spans) c.in-Some.is, c.read_line.auto.path, c.requires.0)

pub perform-answer-requires : goal.perform-answer-requires
perform-answer-requires c = omega (arith, c.requires.1)

pub overflow_cast-count : goal.overflow_cast-count
overflow_cast-count c =
    let told = told-performed _ c.told-number.ensures c.perform-answer.ensures in
    search (
      rules,
      count-few c.args.line.now c.read_line.new.path
          (c.read_line.ensures.reading, c.read_line.ensures.spans) c.in-Some.is (slice-bytes c.read_line.new.path c.slice_known-4-1.given) (omega (arith, c.read_line.auto.path, c.requires.0)) told,
    )

pub put_answer-requires : goal.put_answer-requires
put_answer-requires c = wrote-few c.args.line.now c.read_line.new.path
    (c.read_line.ensures.reading, c.read_line.ensures.spans) c.in-Some.is (slice-bytes c.read_line.new.path c.slice_known-4-1.given) (omega (arith, c.read_line.auto.path, c.requires.0)) c.perform-answer.ensures

pub returns : goal.returns
returns c =
    let told = told-performed _ c.told-number.ensures c.perform-answer.ensures in
    let bytes = slice-bytes c.read_line.new.path c.slice_known-4-1.given in
    let ends = answer-ends c.args.line.now c.read_line.new.path
    (c.read_line.ensures.reading, c.read_line.ensures.spans) c.in-Some.is bytes (omega (arith, c.read_line.auto.path, c.requires.0)) told (search rules) c.put_answer.ensures in
    call-carried c.args.line.now c.read_line.new.path
    (c.read_line.ensures.reading, c.read_line.ensures.spans) c.in-Some.is bytes (omega (arith, c.read_line.auto.path, c.requires.0)) told c.put_answer.ensures (omega (arith, ends, c.requires.1))
