-- The model's step of one that is shown.
use Rattle.text.specs.declared.step.Step as shown
use Rattle.model.specs.Path.{Step}

-- the step with the name and the label of s
abbrev pub step_of : shown.Step → Step
step_of s = record { name = s.name; label = s.label }
