-- `console::space::Room::close`: room is made, the last line is carried out, and all is handed on.
use Rattle.std.proofs.Common.{◌≡◌, ◌∙◌, ap, ◌-◌, ◌≤◌, length, take, arith, rules}
use Rattle.batch.specs.declared.Line.{Line}
use Rattle.console.specs.Room.{kept_in, left_in}
use Rattle.console.proofs.Turning.{close-room, closed-refused}
use Rattle.console.proofs.space.Room.close.Goals as goal

pub returns-in_err-make_room : goal.returns-in_err-make_room
returns-in_err-make_room g c =
    closed-refused (kept_in c.args.self.now) c.args.store.now (left_in c.args.self.now) (left_in c.make_room.new.self) c.from_residual.result c.from_residual.ensures.0

pub returns : goal.returns
returns g c =
    let room = c.in_ok-make_room.ensures in
    let size : length c.args.self.now.out ≡ 65536 = search rules in
    let within : c.make_room.new.self.at ≤ length c.args.self.now.out = omega (arith, room.handed.1) in
    close-room c.empty.result c.make_room.new.self.out c.empty.new.self.out c.empty.new.self.at (65536 - c.make_room.new.self.at) room.handed.0 within
    (c.text.ensures ∙ ap (λ (l : Line). take l.kept l.bytes) room.rest.0) c.finish-wrote.ensures c.empty.ensures.handed
