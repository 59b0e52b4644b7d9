-- `put_all`: a group in each turn, a step longer than the one before, then the element.
use borrow.Author.Rules.{rules}
use mathlib.Core.Path.{◌≡◌}
use Prim.Native.Nat.{◌+◌, ◌-◌, ◌/◌}
use lib.ListN.{length}
use native.Mathlib.Omega.{arith}
use Rattle.groups.proofs.Putting.{vacant-size, going_start, going-short, going-slot, going-room, going_next, end-room, end-goal}
use Rattle.groups.proofs.put_all.Goals as goal

pub overflow_sub-last : goal.overflow_sub-last
overflow_sub-last c = omega (arith, going-short c.args.path.now (going_start c.requires.vacant))

pub loop-k-init : goal.loop-k-init
loop-k-init c =
    let first : c.args.at + (c.args.seen - c.args.seen) ≡ c.args.at = omega arith in
    rw first (going_start c.requires.vacant)

pub overflow_add-at : goal.overflow_add-at
overflow_add-at c = let few = going-slot c.args.path.now c.loop-k.invariant in search rules

pub insert-requires-clause-room : goal.insert-requires-clause-room
insert-requires-clause-room c = going-room c.args.path.now c.loop-k.invariant

pub loop-k-preserved : goal.loop-k-preserved
loop-k-preserved c =
    let next : c.args.at + (c.loop-k.k + 1 - c.args.seen) ≡ c.args.at + (c.loop-k.k - c.args.seen) + 1 = omega (arith, c.loop-k.auto.k) in
    rw next (going_next c.args.path.now c.loop-k.invariant c.loop-k-test.true c.insert.ensures)

pub overflow_add-at-2 : goal.overflow_add-at-2
overflow_add-at-2 c =
    let last : c.loop-k.k ≡ length c.args.path.now / 3 - 1 = omega (arith, c.loop-k-test.false, going-short c.args.path.now c.loop-k.invariant) in
    let few = rw last at (going-slot c.args.path.now c.loop-k.invariant) in
    search rules

pub insert-requires-2-clause-room : goal.insert-requires-2-clause-room
insert-requires-2-clause-room c =
    let last : c.loop-k.k ≡ length c.args.path.now / 3 - 1 = omega (arith, c.loop-k-test.false, going-short c.args.path.now c.loop-k.invariant) in
    rw last at (end-room c.args.path.now c.loop-k.invariant c.loop-k-test.false)

pub shape_of-part : goal.shape_of-part
shape_of-part c = omega (arith, vacant-size c.loop-k.invariant.vacant, vacant-size c.requires.vacant)

pub returns : goal.returns
returns c = end-goal c.args.path.now c.loop-k.invariant c.loop-k-test.false c.insert-2.ensures
