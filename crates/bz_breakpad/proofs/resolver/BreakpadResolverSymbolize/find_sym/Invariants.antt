use Rattle.bz_breakpad.proofs.resolver.BreakpadResolverSymbolize.find_sym.Given as goal

-- the count is kept in the name of the blank that it is made of
abbrev pub ghosts-symbol_blank : goal.ghosts-symbol_blank
ghosts-symbol_blank a = record { name = a.blank.name; parts = a.blank.parts }
