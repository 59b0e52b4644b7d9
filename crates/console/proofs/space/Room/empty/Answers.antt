-- `console::space::Room::empty`: what stands in the output is handed on, all of it.
use Rattle.std.proofs.Common.{◌≡◌, ◌≤◌, length, take, arith, rules}
use Rattle.console.proofs.Turning.{handed-left, handed-all}
use Rattle.console.proofs.space.Room.empty.Goals as goal

pub returns-clause-handed : goal.returns-clause-handed
returns-clause-handed g c =
    let size : length c.args.self.now.out ≡ 65536 = search rules in
    let within : c.args.self.now.at ≤ length c.args.self.now.out = omega arith in
    let count : c.in_ok-self.field-0 ≡ length (take c.args.self.now.at c.args.self.now.out) = search rules in
    (handed-all c.args.self.now.out c.args.self.now.at within count, handed-left c.args.self.now.out c.args.self.now.at within count)
