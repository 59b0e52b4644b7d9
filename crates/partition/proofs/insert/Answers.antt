-- `partition::insert`: the slots from the place on move down, the slot is written, and the count rises.
use borrow.Rule.Slice.PartMut.{mid_len}
use mathlib.Core.Path.{refl}
use Prim.Native.Nat.{◌+◌, ◌*◌}
use native.Mathlib.Omega.{arith}
use lib.ListN.{length-set}
use Rattle.model.specs.Path.{steps_of}
use Rattle.partition.proofs.Layouts.{put_in, room_within, room-sizes, room-put}
use Rattle.partition.proofs.insert.Goals as goal

pub bounds-part-0 : goal.bounds-part-0
bounds-part-0 c = omega (arith, room-sizes c.requires.room)

pub overflow_mul-start : goal.overflow_mul-start
overflow_mul-start c = omega (arith, room-sizes c.requires.room)

pub overflow_add-start : goal.overflow_add-start
overflow_add-start c = omega (arith, room-sizes c.requires.room)

pub overflow_add-end : goal.overflow_add-end
overflow_add-end c = omega (arith, room-sizes c.requires.room)

pub slice_bounds-shift_up-count : goal.slice_bounds-shift_up-count
slice_bounds-shift_up-count c = omega (arith, room-sizes c.requires.room, c.from.ensures)

pub slice_bounds-shift_up-start : goal.slice_bounds-shift_up-start
slice_bounds-shift_up-start c = omega (arith, room-sizes c.requires.room, c.from.ensures)

pub slice_bounds-shift_up-end : goal.slice_bounds-shift_up-end
slice_bounds-shift_up-end c = omega (arith, room-sizes c.requires.room, c.from.ensures)

pub shift_up-requires : goal.shift_up-requires
shift_up-requires c =
    let sizes = room-sizes c.requires.room in
    omega (arith, sizes, c.from.ensures, mid_len (4 + 40 * c.args.at) (44 + 40 * c.from.result) c.args.part.now (omega (arith, sizes, c.from.ensures)))

pub slice_bounds-write-end : goal.slice_bounds-write-end
slice_bounds-write-end c = omega (arith, room-sizes c.requires.room, c.part-1.given)

pub bounds-part-0-2 : goal.bounds-part-0-2
bounds-part-0-2 c = omega (arith, room-sizes c.requires.room, c.part-1.given, c.part-2-1.given)

pub shape_of-part : goal.shape_of-part
shape_of-part c = simp length-set (omega (arith, c.part-1.given, c.part-2-1.given))

pub returns : goal.returns
returns c =
    room-put (steps_of c.args.path.now) _ c.requires.room
    (put_in c.requires.room.formed _ c.args.at (room_within c.requires.room) c.requires.room.free (omega (arith, c.from.ensures)) refl
    c.shift_up.ensures c.write.ensures)
