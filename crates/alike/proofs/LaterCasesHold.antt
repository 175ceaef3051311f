-- The cases hold, by computation.
use mathlib.Core.Path.{refl}
use Rattle.machine.specs.Cases.{small_book, D, loop_or_false, answers_of_d}
use Rattle.machine.proofs.Computes.{entries, reading, symbols, expressions, trees, admission, nodes, steps, walking, answering, turning, running}
use Rattle.forwards.specs.Shorten as Shorten
use Rattle.alike.specs.Walking as Walking
use Rattle.alike.specs.Reuse as Reuse
use Rattle.alike.specs.Asked as Asked
use Rattle.alike.specs.Turning as Turning
use Rattle.alike.specs.Night as Night
use Rattle.alike.specs.LaterCases.{lent_for, seven_finish, two_questions}

unfoldable pub later : Unit {0}
unfolding Shorten.shorten_in Shorten.shortened Shorten.all_followed Walking.arrive Walking.decide Walking.children Walking.construct Walking.steer Walking.walk_in Walking.walk Reuse.arrows_of Reuse.marking Reuse.round_from Reuse.rounds Reuse.reached Reuse.moved_to Reuse.redirected Reuse.kept_by Reuse.moved_down Asked.asking Asked.record_bytes Asked.records_bytes Asked.version Asked.answer_bytes Turning.with_nodes Turning.turned Turning.gone Turning.split Turning.answered Turning.stepped Turning.done Turning.turn_at Turning.attempt Turning.attempted Turning.moved Turning.dropped Turning.again Turning.turn Turning.after Turning.turns_by Turning.turns Turning.loaded_on Turning.loaded Night.lent Night.rooms_of Night.refused_at Night.list_for Night.ended_as Night.run_loaded Night.and_row Night.read_row Night.run_row Night.run
later = tt

pub seven_finish_lem : seven_finish
unfolding seven_finish lent_for small_book D loop_or_false answers_of_d entries reading symbols expressions trees admission nodes steps walking answering turning running later
seven_finish_lem = (refl, refl, refl, refl)

pub two_questions_lem : two_questions
unfolding two_questions lent_for small_book D loop_or_false answers_of_d entries reading symbols expressions trees admission nodes steps walking answering turning running later
two_questions_lem = (refl, refl, refl)
