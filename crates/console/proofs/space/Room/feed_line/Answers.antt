-- `console::space::Room::feed_line`: room is made, then the line is taken in.
use Rattle.std.proofs.Common.{◌≡◌, ap, ◌-◌, ◌≤◌, length, take, arith, rules}
use Rattle.batch.specs.declared.Line.{Line}
use Rattle.console.proofs.Turning.{line-room}
use Rattle.console.proofs.space.Room.feed_line.Goals as goal

pub returns : goal.returns
returns g c =
    let room = c.in_ok-make_room.ensures in
    let size : length c.args.self.now.out ≡ 65536 = search rules in
    let within : c.make_room.new.self.at ≤ length c.args.self.now.out = omega (arith, room.handed.1) in
    line-room (65536 - c.make_room.new.self.at) room.handed.0 within room.rest.1 (ap (λ (l : Line). take l.kept l.bytes) room.rest.0) c.take_in-taken.ensures
