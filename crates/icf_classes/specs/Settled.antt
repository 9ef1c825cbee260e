-- Classes in which `main` represents its own.
use Rattle.std.specs.Prelude.{ℕ, ◌==◌, if◌then◌else◌, List, map}
use Rattle.icf_classes.specs.Congruence.{class_of}

abbrev pub settled_class : ℕ → ℕ → ℕ → ℕ
settled_class of_main main c = if c == of_main then main else c

abbrev pub settled_classes : List ℕ → ℕ → List ℕ
settled_classes classes main = map (settled_class (class_of classes main) main) classes
