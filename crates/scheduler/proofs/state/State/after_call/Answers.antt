-- `State::after_call` meets its contract.
use mathlib.Core.Path.{sym, ◌∙◌, ap}
use Rattle.scheduler.specs.Prelude.{Call}
use Rattle.scheduler.specs.State.{course_of}
use Rattle.scheduler.specs.Answers.{accept}
use Rattle.scheduler.proofs.Courses.{course_submit, course_close, course_finish, course_advance}
use Rattle.scheduler.proofs.state.State.after_call.Goals as goal
use Rattle.scheduler.proofs.state.State.after_call.Goals.{in-Submit, in-Close, in-Finish, in-Advance}

pub returns : goal.returns
unfolding accept
returns c =
    let s = c.args.self in
    elim c.match-made.branch [
      | in-Submit w ↦
          course_submit s _ _ (c.course.ensures ∙ ap course_of (w.state-is ∙ w.make_submit.ensures))
          ∙ ap (λ (m : Call). (accept s m).state) (sym w.in-Submit.is)
      | in-Close w ↦
          course_close s _ _ (c.course.ensures ∙ ap course_of (w.state-is ∙ w.make_close.ensures))
          ∙ ap (λ (m : Call). (accept s m).state) (sym w.in-Close.is)
      | in-Finish w ↦
          course_finish s _ (c.course.ensures ∙ ap course_of (w.state-is ∙ w.make_finish.ensures))
          ∙ ap (λ (m : Call). (accept s m).state) (sym w.in-Finish.is)
      | in-Advance w ↦
          course_advance s _ _ (c.course.ensures ∙ ap course_of (w.state-is ∙ w.make_advance.ensures))
          ∙ ap (λ (m : Call). (accept s m).state) (sym w.in-Advance.is)
    ]
