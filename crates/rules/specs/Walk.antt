-- A list of presses, each made on what the last one left, and DEMAND 3: what is promised of the whole list, of any machine. Assumes nothing.
use Rattle.std.specs.Prelude.{ℕ, ◌+◌, ◌^◌, ◌<◌, ◌≡◌, cond, List, [], ◌∷◌, ◌++◌, Ok, Err, None, Some}
use Rattle.rules.specs.declared.states.State.{State}
use Rattle.rules.specs.Check.{◌=ⁿ◌}
use Rattle.rules.specs.Step.{Machine, frame, beyond, moved, zeroed}
use Rattle.rules.specs.Run.{uncounted, run_of}
use Rattle.rules.specs.History.{AfterPress, forward_of, back_of}
use Rattle.rules.specs.PlainWalk.{PlainWalk, stage_of, stage, Press, forward, back, plain_answers, plain_net, scratch_from, plain_scratch}
use Rattle.rules.specs.declared.halts.Halt.TheVariants.{Return, Throw, Refused}
use Rattle.rules.specs.Decisions.{Pressed}
use Rattle.rules.specs.Refusals.{number_of}

-- ---- the walk itself

unfoldable pub press_of : Machine → Press → State → List ℕ → List ℕ → AfterPress
press_of x forward s slots log = forward_of x s slots log
press_of x back s slots log = back_of x.runs s slots log

pub record Walked : Type 0 where
  pub state : State
  pub slots : List ℕ
  pub log : List ℕ
  pub answers : List Pressed

unfoldable pub walk_of : Machine → List Press → State → List ℕ → List ℕ → Walked
walk_of x [] s slots log = record { state = s; slots = slots; log = log; answers = [] }
walk_of x (p ∷ ps) s slots log =
    let o = press_of x p s slots log in
    let w = walk_of x ps o.state o.slots o.log in
    record { state = w.state; slots = w.slots; log = w.log; answers = o.answer ∷ w.answers }

-- ---- what is counted of its answers

-- how many presses of a kind were granted
abbrev pub one : Press → Press → Pressed → ℕ
one forward forward (Ok t) = 1
one forward forward (Err h) = 0
one forward back a = 0
one back forward a = 0
one back back (Ok t) = 1
one back back (Err h) = 0

unfoldable pub grants : Press → List Press → List Pressed → ℕ
grants which [] answers = 0
grants which (p ∷ ps) [] = 0
grants which (p ∷ ps) (a ∷ rest) = one which p a + grants which ps rest

-- how many presses were refused with a number
abbrev pub refused_with : ℕ → Pressed → ℕ
refused_with n (Ok t) = 0
refused_with n (Err (Return v)) = 0
refused_with n (Err Throw) = 0
refused_with n (Err (Refused r)) = cond (number_of r =ⁿ n) 1 0

unfoldable pub refusals : ℕ → List Pressed → ℕ
refusals n [] = 0
refusals n (a ∷ rest) = refused_with n a + refusals n rest

-- ---- DEMAND 3 of a list of presses, by the plain walk f: it left w, and began on the slots that were lent first

pub record Demand3 (f : PlainWalk) (slots : List ℕ) (presses : List Press) (w : Walked) : Type 0 where
  -- every press is answered as by the plain walk; so back is refused, with 13, exactly where net is 0
  pub answered : w.answers ≡ plain_answers f presses 0
  -- 14 never comes
  pub sound : refusals 14 w.answers ≡ 0
  -- the walk stands at stage net: same offset, same depth, same word in every local and stack place, also above the top
  pub at_net : stage f (plain_net f presses 0) ≡ Some (stage_of w.state w.slots)
  -- net is the number of granted forwards less that of granted backs
  pub difference : plain_net f presses 0 + grants back presses w.answers ≡ grants forward presses w.answers
  -- the state keeps its sizes and counts the steps
  pub sized : w.state ≡ moved f.state w.state.pc w.state.depth (plain_net f presses 0)
  -- slots beyond the frame are as they were, but for scratch
  pub outside : beyond f.state w.slots ≡ zeroed (plain_scratch f presses 0 0) (beyond f.state slots)
  -- a run with net as its budget, from where the walk began, ends at the same offset, depth and words, and reports net steps
  pub ran : plain_net f presses 0 < 2 ^ 64
      → run_of f.machine (plain_net f presses 0) f.state slots
      ≡ record {
        state = uncounted w.state;
        steps = plain_net f presses 0;
        end = None;
        slots = frame f.state w.slots ++ zeroed (scratch_from f f.first (plain_net f presses 0)) (beyond f.state slots);
      }
