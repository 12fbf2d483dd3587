-- The tables and the taps of a route are facts: there is one proof of each at most.
use Rattle.std.proofs.Common.{List, ℤ}
use Rattle.std.proofs.Props.{props}
use Rattle.reference.specs.declared.Converter.{Converter}
use Rattle.routes.specs.declared.Route.{Route}
use Rattle.routes.specs.declared.Route.TheVariants.{Narrow88, Narrow176, Narrow352, Wide176, Wide352}
use Rattle.routes.specs.inner.Routes.{Routed, LastFilter, FirstTables, RouteTaps}

pub routed_prop : (conv : Converter) (route : Route) → IsProp (Routed conv route)
routed_prop conv route = hlevel props

pub first_prop : (route : Route) (tables : List ℤ) → IsProp (FirstTables route tables)
unfolding FirstTables
first_prop Narrow88 tables = hlevel props
first_prop Narrow176 tables = hlevel props
first_prop Narrow352 tables = hlevel props
first_prop Wide176 tables = hlevel props
first_prop Wide352 tables = hlevel props

pub last_prop : (route : Route) (F : List ℤ) → IsProp (LastFilter route F)
unfolding LastFilter
last_prop Narrow88 F = hlevel props
last_prop Narrow176 F = hlevel props
last_prop Narrow352 F = hlevel props
last_prop Wide176 F = hlevel props
last_prop Wide352 F = hlevel props

pub taps_prop : (route : Route) (F h : List ℤ) → IsProp (RouteTaps route F h)
taps_prop route F h = hlevel (props, last_prop)
