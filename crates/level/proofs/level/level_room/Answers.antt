use native.Mathlib.Omega.{arith}
use Rattle.level.proofs.Laws.Level.{room_most}
use Rattle.level.proofs.level.level_room.Goals as goal

pub overflow_mul-result : goal.overflow_mul-result
overflow_mul-result c =
    let room = room_most c.args.model.now c.requires.good_model c.args.a.0 c.args.b.0 c.requires.a_bound c.requires.b_bound in
    record { fits = omega (arith, c.list_length.ensures) }

pub overflow_mul-result-2 : goal.overflow_mul-result-2
overflow_mul-result-2 c =
    let room = room_most c.args.model.now c.requires.good_model c.args.a.0 c.args.b.0 c.requires.a_bound c.requires.b_bound in
    record { fits = omega (arith, c.list_length-2.ensures) }

pub overflow_add-result : goal.overflow_add-result
overflow_add-result c =
    let room = room_most c.args.model.now c.requires.good_model c.args.a.0 c.args.b.0 c.requires.a_bound c.requires.b_bound in
    record { fits = omega (arith, c.list_length.ensures, c.list_length-2.ensures) }
