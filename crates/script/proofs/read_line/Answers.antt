-- `read_line`: the head, the path and the call, one after another.
use Rattle.std.proofs.Common.{arith}
use Rattle.script.proofs.Callings.{reads-headless, reads-pathless, reads-verbless, reads-call}
use Rattle.script.proofs.read_line.Goals as goal

pub returns-in_err-subject : goal.returns-in_err-subject
returns-in_err-subject c = rw c.from_residual.ensures (record { reading = search (reads-headless, c.in_err-subject.ensures); spans = tt })

pub returns-in_err-steps : goal.returns-in_err-steps
returns-in_err-steps c =
    rw c.from_residual-in_err-steps.ensures (record { reading = search (reads-pathless, c.in_ok-subject.ensures, c.in_err-steps.ensures); spans = tt })

pub call_at-requires : goal.call_at-requires
call_at-requires c = record { at_in_bounds = c.in_ok-steps.ensures.1; t = c.in_ok-steps.ensures.2.ends }

pub returns-in_err-call : goal.returns-in_err-call
returns-in_err-call c =
    rw c.from_residual-in_err-call.ensures
    (record { reading = search (reads-verbless, c.in_ok-subject.ensures, c.in_ok-steps.ensures, c.in_err-call.ensures); spans = tt })

pub returns : goal.returns
returns c =
    let reads = reads-call c.args.line.now c.in_ok-subject.ensures c.path_at.new.path _ c.in_ok-steps.ensures (omega arith) _ c.in_ok-call.ensures in
    record { reading = reads.0; spans = reads.1 }
