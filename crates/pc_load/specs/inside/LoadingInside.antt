-- What the parts of a `Loading` hold.
use Rattle.pc_load.specs.declared.loading.Loading.TheInside.{Inside}
use Rattle.pc_load.specs.Loading.{Loading}

abbrev pub loading_from : Inside → Loading
loading_from a = record { days = a.days; order = a.order.items; items = a.items; resources = a.resources }
