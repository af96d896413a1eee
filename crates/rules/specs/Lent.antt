-- A method that is lent (rules/src/methods), as the rules have it. Assumes nothing.
use Rattle.rules.specs.declared.methods.Method as methods
use Rattle.std.specs.Prelude.{ℕ, List, []}
use Rattle.rules.specs.Questions.{Method, method}

abbrev pub lent : methods.Method → Method
lent m = method m.code.now m.kinds.now m.words.now m.handlers.now

-- with other handlers
abbrev pub with_handlers : List ℕ → Method → Method
with_handlers handlers l = method l.code l.kinds l.words handlers

-- without any
abbrev pub plain : Method → Method
plain l = with_handlers [] l
