-- Which units calls name: what is gathered part by part is what the marks of the body say.
use Rattle.std.proofs.Common.{◌≡◌, ℕ, List, [], ◌∷◌, ◌++◌, Option, Some, None, refl, ap, sym, ◌∙◌, append_assoc, append-nil}
use Rattle.core_tree.specs.Trees.{Expr, lit, truth, get, select, field, unary, binary, and_then, or_else, within, succ, pred, position, convert, call, fill, put, make, aggregate, given, Exprs, end, ◌&◌, Starts, none, start, Stmt, null, assign, call_of, branch, choose, forever, repeat, count, block, exit, give, raise, claim, Stmts, done, next, Choices, no_choice, choice, Catches, no_catch, catch}
use Rattle.core_tree.specs.Marks.{Mark, a_call, a_loop, an_assert, an_object, in_expr, in_exprs, in_starts, in_value, in_stmt, in_stmts, in_choices, in_catches, units_called}
use Rattle.core_tree.specs.Once.{with_expr, with_exprs, with_starts, with_value, with_stmt, with_stmts, with_choices, with_catches}

units_append : (ms ns : List Mark) → units_called (ms ++ ns) ≡ units_called ms ++ units_called ns
units_append [] ns = refl
units_append (a_call n u ∷ ms) ns = ap (λ (us : List ℕ). u ∷ us) (units_append ms ns)
units_append (a_loop n ∷ ms) ns = units_append ms ns
units_append (an_assert n ∷ ms) ns = units_append ms ns
units_append (an_object o ∷ ms) ns = units_append ms ns

-- these numbers, and then those of these marks
abbrev And : List ℕ → List Mark → List ℕ
And us ms = us ++ units_called ms

nothing_more : (us : List ℕ) → us ≡ And us []
nothing_more us = sym (append-nil us)

both : (us vs ws : List ℕ) (ms ns : List Mark) → vs ≡ And us ms → ws ≡ And vs ns → ws ≡ And us (ms ++ ns)
both us vs ws ms ns f s = s ∙ ap (λ (xs : List ℕ). xs ++ units_called ns) f ∙ append_assoc us (units_called ms) (units_called ns) ∙ ap (λ (xs : List ℕ). us ++ xs) (sym (units_append ms ns))

one_more : (us ws : List ℕ) (n u : ℕ) (ms : List Mark) → ws ≡ And (us ++ u ∷ []) ms → ws ≡ And us (a_call n u ∷ ms)
one_more us ws n u ms s = s ∙ append_assoc us (u ∷ []) (units_called ms)

mutual
  of_expr : (us : List ℕ) (e : Expr) → with_expr us e ≡ And us (in_expr e)
  of_expr us (lit v) = nothing_more us
  of_expr us (truth b) = nothing_more us
  of_expr us (get o) = nothing_more us
  of_expr us (select a i) = both us (with_expr us a) (with_expr (with_expr us a) i) (in_expr a) (in_expr i) (of_expr us a) (of_expr (with_expr us a) i)
  of_expr us (field r c) = of_expr us r
  of_expr us (unary o a) = of_expr us a
  of_expr us (binary o a b) = both us (with_expr us a) (with_expr (with_expr us a) b) (in_expr a) (in_expr b) (of_expr us a) (of_expr (with_expr us a) b)
  of_expr us (and_then a b) = both us (with_expr us a) (with_expr (with_expr us a) b) (in_expr a) (in_expr b) (of_expr us a) (of_expr (with_expr us a) b)
  of_expr us (or_else a b) = both us (with_expr us a) (with_expr (with_expr us a) b) (in_expr a) (in_expr b) (of_expr us a) (of_expr (with_expr us a) b)
  of_expr us (within e l h) =
      let vs = with_expr us e in
      both us vs (with_expr (with_expr vs l) h) (in_expr e) (in_expr l ++ in_expr h) (of_expr us e)
      (both vs (with_expr vs l) (with_expr (with_expr vs l) h) (in_expr l) (in_expr h) (of_expr vs l) (of_expr (with_expr vs l) h))
  of_expr us (succ e last) = of_expr us e
  of_expr us (pred e first last) = of_expr us e
  of_expr us (position e) = of_expr us e
  of_expr us (convert e s w) = of_expr us e
  of_expr us (call n u es) = one_more us (with_exprs (us ++ u ∷ []) es) n u (in_exprs es) (of_exprs (us ++ u ∷ []) es)
  of_expr us (fill n e) = of_expr us e
  of_expr us (put a i e) = both us (with_expr us a) (with_expr (with_expr us a) e) (in_expr a) (in_expr e) (of_expr us a) (of_expr (with_expr us a) e)
  of_expr us (make n es) = of_exprs us es
  of_expr us (aggregate es e) = both us (with_exprs us es) (with_expr (with_exprs us es) e) (in_exprs es) (in_expr e) (of_exprs us es) (of_expr (with_exprs us es) e)
  of_expr us (given k) = nothing_more us

  of_exprs : (us : List ℕ) (es : Exprs) → with_exprs us es ≡ And us (in_exprs es)
  of_exprs us end = nothing_more us
  of_exprs us (e & es) = both us (with_expr us e) (with_exprs (with_expr us e) es) (in_expr e) (in_exprs es) (of_expr us e) (of_exprs (with_expr us e) es)

-- an object has no unit
past_object : (us : List ℕ) (o : ℕ) (ms : List Mark) → And us (an_object o ∷ ms) ≡ And us ms
past_object us o ms = refl

of_starts : (us : List ℕ) (ss : Starts) → with_starts us ss ≡ And us (in_starts ss)
of_starts us none = nothing_more us
of_starts us (start o e ss) = both us (with_expr us e) (with_starts (with_expr us e) ss) (in_expr e) (an_object o ∷ in_starts ss) (of_expr us e) (of_starts (with_expr us e) ss)

of_value : (us : List ℕ) (e : Option Expr) → with_value us e ≡ And us (in_value e)
of_value us (Some e) = of_expr us e
of_value us None = nothing_more us

mutual
  pub of_stmt : (us : List ℕ) (s : Stmt) → with_stmt us s ≡ us ++ units_called (in_stmt s)
  of_stmt us null = nothing_more us
  of_stmt us (assign t v) = both us (with_expr us t) (with_expr (with_expr us t) v) (in_expr t) (in_expr v) (of_expr us t) (of_expr (with_expr us t) v)
  of_stmt us (call_of n u es) = one_more us (with_exprs (us ++ u ∷ []) es) n u (in_exprs es) (of_exprs (us ++ u ∷ []) es)
  of_stmt us (branch c a b) =
      let vs = with_expr us c in
      both us vs (with_stmts (with_stmts vs a) b) (in_expr c) (in_stmts a ++ in_stmts b) (of_expr us c)
      (both vs (with_stmts vs a) (with_stmts (with_stmts vs a) b) (in_stmts a) (in_stmts b) (of_stmts vs a) (of_stmts (with_stmts vs a) b))
  of_stmt us (choose e cs) = both us (with_expr us e) (with_choices (with_expr us e) cs) (in_expr e) (in_choices cs) (of_expr us e) (of_choices (with_expr us e) cs)
  of_stmt us (forever n t ss) = of_stmts us ss
  of_stmt us (repeat n c t ss) = both us (with_expr us c) (with_stmts (with_expr us c) ss) (in_expr c) (in_stmts ss) (of_expr us c) (of_stmts (with_expr us c) ss)
  of_stmt us (count n o r l h t ss) =
      let vs = with_expr us l in
      both us vs (with_stmts (with_expr vs h) ss) (in_expr l) (in_expr h ++ (an_object o ∷ in_stmts ss)) (of_expr us l)
      (both vs (with_expr vs h) (with_stmts (with_expr vs h) ss) (in_expr h) (an_object o ∷ in_stmts ss) (of_expr vs h) (of_stmts (with_expr vs h) ss))
  of_stmt us (block is ss hs) =
      let vs = with_starts us is in
      both us vs (with_catches (with_stmts vs ss) hs) (in_starts is) (in_stmts ss ++ in_catches hs) (of_starts us is)
      (both vs (with_stmts vs ss) (with_catches (with_stmts vs ss) hs) (in_stmts ss) (in_catches hs) (of_stmts vs ss) (of_catches (with_stmts vs ss) hs))
  of_stmt us exit = nothing_more us
  of_stmt us (give e) = of_value us e
  of_stmt us (raise e) = nothing_more us
  of_stmt us (claim n t) = nothing_more us

  of_stmts : (us : List ℕ) (ss : Stmts) → with_stmts us ss ≡ And us (in_stmts ss)
  of_stmts us done = nothing_more us
  of_stmts us (next s ss) = both us (with_stmt us s) (with_stmts (with_stmt us s) ss) (in_stmt s) (in_stmts ss) (of_stmt us s) (of_stmts (with_stmt us s) ss)

  of_choices : (us : List ℕ) (cs : Choices) → with_choices us cs ≡ And us (in_choices cs)
  of_choices us no_choice = nothing_more us
  of_choices us (choice low high ss cs) = both us (with_stmts us ss) (with_choices (with_stmts us ss) cs) (in_stmts ss) (in_choices cs) (of_stmts us ss) (of_choices (with_stmts us ss) cs)

  of_catches : (us : List ℕ) (hs : Catches) → with_catches us hs ≡ And us (in_catches hs)
  of_catches us no_catch = nothing_more us
  of_catches us (catch es ss hs) = both us (with_stmts us ss) (with_catches (with_stmts us ss) hs) (in_stmts ss) (in_catches hs) (of_stmts us ss) (of_catches (with_stmts us ss) hs)
