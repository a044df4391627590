use Rattle.std.proofs.Common.{◌-◌, ◌≤◌, length}
use Rattle.text.specs.Writers.{Progress}
use Rattle.desk.specs.Places.{lines_left}
use Rattle.desk.specs.Progress.{waiting_at}
use Rattle.desk.specs.Waiting.{Sequel}
use Rattle.desk.proofs.waiting.wait.Given as goal

abbrev pub invariant-loop-place : goal.invariant-loop-place
invariant-loop-place l = record {
  told : (s : Sequel) → Progress l.initial.out (waiting_at s l.initial.records.0) l.out (waiting_at s l.records.0);
  fewer : length (lines_left l.records.0) ≤ length (lines_left l.initial.records.0);
}

abbrev pub decreases-loop-place : goal.decreases-loop-place
decreases-loop-place l = length l.records.0.input.now - l.records.0.at
