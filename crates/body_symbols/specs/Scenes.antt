-- What the symbols in a body depend on, as the code has it.
use Rattle.body_symbols.specs.declared.scene.Scene.{Scene}
use Rattle.body_symbols.specs.Bodies.{Body}

abbrev pub body_in : Scene → Body
body_in s = record { globals = s.globals.now; mode = s.mode; locals = s.locals.now; registers = s.registers.now; formals = s.formals }
